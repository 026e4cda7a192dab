-- One step more of lists that are made step by step.
use Rattle.std.proofs.Common.{◌≡◌, ◌∙◌, ◌⊎◌, inl, inr, ℕ, zero, suc, ◌+◌, ◌-◌, ◌*◌, ◌≤◌, ◌<◌, ◌&&◌, if◌then◌else◌, codes, Option, Some, OnOk, Result, Ok, Err, List, [], ◌∷◌, ◌++◌, drop, length, min, replicate, take, refl, sym, ap, arith}
use Rattle.std.proofs.Math.Nat.{min-eq_left, min-eq_right}
use Rattle.std.proofs.lemmas.Bool.{cases_lt}
use Rattle.std.proofs.lemmas.List.{length-drop, take_all}
use Rattle.std.specs.Fmt.{decimal}
use Rattle.ht_outside.specs.Files.{Files}
use Rattle.trace_types.specs.Texts.{same_bytes}
use Rattle.ht_outside.specs.Stored.{Puts}
use Rattle.trace_gen.specs.declared.events.MadeEvent.{MadeEvent}
use Rattle.trace_gen.specs.Acts.{acts_of, round}
use Rattle.trace_gen.specs.Events.{own}
use Rattle.trace_gen.specs.Folders.{AreSame, folders, with_host}
use Rattle.trace_gen.specs.Layout.{file_bytes, packet, packets}
use Rattle.trace_gen.specs.Metadata.{metadata_text}

pub add-one : (n : ℕ) → n + 1 ≡ suc n
add-one n = omega arith

pub acts_next : (hosts j : ℕ) → acts_of hosts (j + 1) ≡ acts_of hosts j ++ round hosts j
acts_next hosts j = ap (acts_of hosts) (add-one j)

pub packets_next : (n : ℕ) (events : List MadeEvent) → packets (n + 1) events ≡ packets n events ++ packet n (take 100 (drop (100 * n) events))
packets_next n events = ap (λ m. packets m events) (add-one n)

pub folders_next : (host : ℕ) (events : List MadeEvent) → folders (host + 1) events ≡ with_host host events (folders host events)
folders_next host events = ap (λ n. folders n events) (add-one host)

one_more_last : {A : Type 0} (x : A) (n : ℕ) → x ∷ replicate n x ≡ replicate n x ++ x ∷ []
one_more_last x zero = refl
one_more_last x (suc n) = ap (λ l. x ∷ l) (one_more_last x n)

pub replicate_next : {A : Type 0} (x : A) (n : ℕ) → replicate (n + 1) x ≡ replicate n x ++ x ∷ []
replicate_next x n = ap (λ m. replicate m x) (add-one n) ∙ one_more_last x n

-- ---- a host's folder

module _ (host : ℕ) (events : List MadeEvent) (old : Files) (dir other text bytes : List ℕ) where
  pub put_twice : {T E : Type 0} (r : Result T E) (mid new : Files) → dir ≡ decimal host → other ≡ decimal host → text ≡ metadata_text host → bytes ≡ file_bytes (own host events)
      → Puts old dir (codes "metadata") text mid → OnOk r (Puts mid other (codes "channel0_0") bytes new) → OnOk r (AreSame new (with_host host events old))
  put_twice (Ok x) mid new is_dir is_other is_text is_bytes first second = λ d n.
      let at_first = ap (λ (x : List ℕ). if same_bytes x d && same_bytes (codes "metadata") n then Some text else old d n) is_dir in
      let with_text = ap (λ (t : List ℕ). if same_bytes (decimal host) d && same_bytes (codes "metadata") n then Some t else old d n) is_text in
      let below = first d n ∙ (at_first ∙ with_text) in
      second d n
      ∙ (ap (λ (m : Option (List ℕ)). if same_bytes other d && same_bytes (codes "channel0_0") n then Some bytes else m) below
      ∙ (ap (λ (x : List ℕ). if same_bytes x d && same_bytes (codes "channel0_0") n then Some bytes else (if same_bytes (decimal host) d && same_bytes (codes "metadata") n then Some (metadata_text host) else old d n)) is_other
      ∙ ap (λ (b : List ℕ). if same_bytes (decimal host) d && same_bytes (codes "channel0_0") n then Some b else (if same_bytes (decimal host) d && same_bytes (codes "metadata") n then Some (metadata_text host) else old d n)) is_bytes))
  put_twice (Err e) mid new is_dir is_other is_text is_bytes first second = tt

pub one_more_host : (host : ℕ) (events shown : List MadeEvent) (old new : Files) → shown ≡ events → AreSame old (folders host events) → AreSame new (with_host host shown old) → AreSame new (folders (host + 1) events)
one_more_host host events shown old new is so_far put = λ d n.
    put d n
    ∙ (ap (λ (es : List MadeEvent). with_host host es old d n) is
    ∙ (ap (λ (m : Option (List ℕ)). if same_bytes (decimal host) d && same_bytes (codes "channel0_0") n then Some (file_bytes (own host events)) else (if same_bytes (decimal host) d && same_bytes (codes "metadata") n then Some (metadata_text host) else m)) (so_far d n)
    ∙ sym (ap (λ (files : Files). files d n) (folders_next host events))))

-- ---- a piece of the events

pub piece : {A : Type 0} (xs : List A) (from to : ℕ) → from ≤ length xs → to ≡ min (length xs) (from + 100) → take (to - from) (drop from xs) ≡ take 100 (drop from xs)
piece xs from to inside is = by (cases_lt (from + 100) (length xs))
  where
    by : (from + 100 < length xs) ⊎ (length xs ≤ from + 100) → take (to - from) (drop from xs) ≡ take 100 (drop from xs)
    by (inl more) =
        let m : min (length xs) (from + 100) ≡ from + 100 = min-eq_right (omega (arith, more)) in
        let e : to - from ≡ 100 = omega (arith, is, m) in ap (λ n. take n (drop from xs)) e
    by (inr few) =
        let m : min (length xs) (from + 100) ≡ length xs = min-eq_left few in
        let long = length-drop from xs in
        take_all (to - from) (drop from xs) (omega (arith, is, m, long)) ∙ sym (take_all 100 (drop from xs) (omega (arith, long, few)))
