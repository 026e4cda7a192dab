-- The folders of a run are those of its hosts, and nothing else.
use Rattle.std.proofs.Common.{◌≡◌, ◌∙◌, ◌⊎◌, inl, inr, ℕ, zero, suc, ◌<◌, ◌≤◌, Bool, true, false, ◌&&◌, if◌then◌else◌, codes, IsSome, List, Option, Some, refl, sym, ap, arith}
use Rattle.std.proofs.lemmas.Bool.{cases_lt}
use Rattle.std.specs.Cmp.Lexicographic.{bytes_decides}
use Rattle.std.specs.Fmt.{decimal}
use Rattle.trace_types.specs.Texts.{same_bytes}
use Rattle.trace_types.proofs.Decimals.{same_decimal}
use Rattle.trace_gen.specs.declared.events.MadeEvent.{MadeEvent}
use Rattle.trace_gen.specs.Events.{own}
use Rattle.trace_gen.specs.Folders.{AreFolders, folders}
use Rattle.trace_gen.specs.Layout.{file_bytes}
use Rattle.trace_gen.specs.Metadata.{metadata_text}

differ : (x y : List ℕ) → (x ≡ y → ⊥) → (b : Bool) → same_bytes x y ≡ b → b ≡ false
differ x y apart true e = absurd (apart ((bytes_decides x y).0 e))
differ x y apart false e = refl

-- folders of two hosts have two names
apart : (m n : ℕ) → m < n → n < 64 → same_bytes (decimal n) (decimal m) ≡ false
apart m n below few = differ (decimal n) (decimal m) (λ e. absurd (let same = same_decimal n m 64 few (omega (arith, below, few)) (omega arith) e in omega (arith, same, below))) (same_bytes (decimal n) (decimal m)) refl

itself : (x : List ℕ) → same_bytes x x ≡ true
itself x = (bytes_decides x x).1 refl

module _ (events : List MadeEvent) where
  -- what a folder gives, where its name is or isn't the one asked for, and the file's name is each of the two or neither
  chosen : ℕ → Option (List ℕ) → Bool → Bool → Bool → Option (List ℕ)
  chosen host other dir stream metadata = if dir && stream then Some (file_bytes (own host events)) else if dir && metadata then Some (metadata_text host) else other

  pub metadata_there : (hosts host : ℕ) → hosts ≤ 64 → host < hosts → folders hosts events (decimal host) (codes "metadata") ≡ Some (metadata_text host)
  unfolding chosen
  metadata_there zero host few below = absurd (omega (arith, below))
  metadata_there (suc h) host few below = by (metadata_there h host (omega (arith, few))) (cases_lt host h)
    where
      by : (host < h → folders h events (decimal host) (codes "metadata") ≡ Some (metadata_text host)) → (host < h) ⊎ (h ≤ host) → folders (suc h) events (decimal host) (codes "metadata") ≡ Some (metadata_text host)
      by before (inl less) = ap (λ b. chosen h (folders h events (decimal host) (codes "metadata")) b (same_bytes (codes "channel0_0") (codes "metadata")) (same_bytes (codes "metadata") (codes "metadata"))) (apart host h less (omega (arith, few))) ∙ before less
      by before (inr more) =
          let same : h ≡ host = omega (arith, more, below) in
          ap (λ b. chosen h (folders h events (decimal host) (codes "metadata")) b (same_bytes (codes "channel0_0") (codes "metadata")) (same_bytes (codes "metadata") (codes "metadata"))) (ap (λ n. same_bytes (decimal n) (decimal host)) same ∙ itself (decimal host)) ∙ ap (λ n. Some (metadata_text n)) same

  pub stream_there : (hosts host : ℕ) → hosts ≤ 64 → host < hosts → folders hosts events (decimal host) (codes "channel0_0") ≡ Some (file_bytes (own host events))
  unfolding chosen
  stream_there zero host few below = absurd (omega (arith, below))
  stream_there (suc h) host few below = by (stream_there h host (omega (arith, few))) (cases_lt host h)
    where
      by : (host < h → folders h events (decimal host) (codes "channel0_0") ≡ Some (file_bytes (own host events))) → (host < h) ⊎ (h ≤ host) → folders (suc h) events (decimal host) (codes "channel0_0") ≡ Some (file_bytes (own host events))
      by before (inl less) = ap (λ b. chosen h (folders h events (decimal host) (codes "channel0_0")) b (same_bytes (codes "channel0_0") (codes "channel0_0")) (same_bytes (codes "metadata") (codes "channel0_0"))) (apart host h less (omega (arith, few))) ∙ before less
      by before (inr more) =
          let same : h ≡ host = omega (arith, more, below) in
          ap (λ b. chosen h (folders h events (decimal host) (codes "channel0_0")) b (same_bytes (codes "channel0_0") (codes "channel0_0")) (same_bytes (codes "metadata") (codes "channel0_0"))) (ap (λ n. same_bytes (decimal n) (decimal host)) same ∙ itself (decimal host)) ∙ ap (λ n. Some (file_bytes (own n events))) same

  -- a file is that of a host below these, with one of two names
  IsOne : ℕ → List ℕ → List ℕ → Type 0
  IsOne hosts dir name = (host : ℕ) × (host < hosts) × (dir ≡ decimal host) × ((name ≡ codes "metadata") ⊎ (name ≡ codes "channel0_0"))

  pub only_these : (hosts : ℕ) (dir name : List ℕ) → IsSome (folders hosts events dir name) → (host : ℕ) × (host < hosts) × (dir ≡ decimal host) × ((name ≡ codes "metadata") ⊎ (name ≡ codes "channel0_0"))
  unfolding chosen IsOne
  only_these zero dir name some = let no : false ≡ true = some in absurd (cc)
  only_these (suc h) dir name some = by (only_these h dir name) (same_bytes (decimal h) dir) (same_bytes (codes "channel0_0") name) (same_bytes (codes "metadata") name) refl refl refl some
    where
      later : IsOne h dir name → IsOne (suc h) dir name
      later one = let below = one.1 in (one.0, omega (arith, below), one.2, one.3)

      by : (IsSome (folders h events dir name) → IsOne h dir name) → (d s m : Bool) → same_bytes (decimal h) dir ≡ d → same_bytes (codes "channel0_0") name ≡ s → same_bytes (codes "metadata") name ≡ m → IsSome (chosen h (folders h events dir name) d s m) → IsOne (suc h) dir name
      by before true true m is_dir is_stream is_meta some = (h, omega arith, sym ((bytes_decides (decimal h) dir).0 is_dir), inr (sym ((bytes_decides (codes "channel0_0") name).0 is_stream)))
      by before true false true is_dir is_stream is_meta some = (h, omega arith, sym ((bytes_decides (decimal h) dir).0 is_dir), inl (sym ((bytes_decides (codes "metadata") name).0 is_meta)))
      by before true false false is_dir is_stream is_meta some = later (before some)
      by before false s m is_dir is_stream is_meta some = later (before some)

pub whole : (hosts : ℕ) (events : List MadeEvent) → hosts ≤ 64 → AreFolders hosts events (folders hosts events)
whole hosts events few = record {
  metadata = λ host below. metadata_there events hosts host few below;
  stream = λ host below. stream_there events hosts host few below;
  only = only_these events hosts;
}
