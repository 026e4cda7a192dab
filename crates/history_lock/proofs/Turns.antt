-- What a step changes of the rule's parts.
use Rattle.std.proofs.Common.{◌≡◌, ◌≢◌, ℕ, zero, suc, ◌+◌, ◌≤◌, true, List, [], ◌∷◌, ◌++◌, set, Option, ⊎_elim, sym, ap, ◌∙◌, subst, le_trans, le_of_eq, true≢false, arith}
use mathlib.Core.Option.{none, some, some-injective}
use lib.ListN.{get_elem?}
use Rattle.atomic_table.proofs.Lists.{at_set}
use Rattle.kernel_provider.specs.declared.step.Step.{Step}
use Rattle.history_core.specs.Stands.{HistoryModel}
use Rattle.history_lock.specs.declared.view.View.{View}
use Rattle.history_lock.specs.Turn.{unborn, AllAtMost, Fits, Views, AllFit, AllBorn, holders, Cells, AtHome, IsOut, Kept, Fresh, Keeps}
use Rattle.history_lock.proofs.Lists.{after_set, holders_some, holders_one}

abbrev pub cells : List ℕ → List (mathlib.Core.Option.Option (Option HistoryModel)) → Views → Cells
cells ws hs vs = record { words = ws; homes = hs; views = vs }

-- it is enough to show a fact of the table whose words and slots are these
pub at_cells : (F : Cells → Type 0) (s : Cells) (ws : List ℕ) (hs : List (mathlib.Core.Option.Option (Option HistoryModel))) → s.words ≡ ws → s.homes ≡ hs → F (cells ws hs s.views) → F s
at_cells F s ws hs ew eh x = subst F (sym (λ i. cells (ew i) (eh i) s.views)) x

-- a view is alive, so the table has begun
pub not_fresh : (s : Cells) (id : ℕ) (v : View) → v.live ≡ true → get_elem? s.views id ≡ some v → Keeps s → Kept s
not_fresh s id v live at k = ⊎_elim (λ (f : Fresh s). absurd (dead id v live (subst (λ l. get_elem? l id ≡ some v) f.4 at))) (λ (x : Kept s). x) k
  where
    dead : (id : ℕ) (v : View) → v.live ≡ true → get_elem? (unborn ∷ []) id ≡ some v → ⊥
    dead zero v live at = true≢false (sym live ∙ ap (λ (u : View). u.live) (sym (some-injective unborn v at)))
    dead (suc n) v live at = mathlib.Core.Option.some-ne-none v (sym at)

-- at the same count
pub fits_set : (plan : List Step) (count builder id : ℕ) (w : View) (vs : Views) → AllFit plan count builder vs → (w.live ≡ true → Fits plan count builder id w) → AllFit plan count builder (set vs id w)
fits_set plan count builder id w vs all here =
    after_set (λ j u. u.live ≡ true → Fits plan count builder j u) (λ j u. u.live ≡ true → Fits plan count builder j u) vs id w all here (λ j u ne f. f)

pub born_set : (id : ℕ) (w : View) (vs : Views) → AllBorn vs → (w.builds ≡ true → w.live ≡ true) → AllBorn (set vs id w)
born_set id w vs all here = after_set (λ j u. u.builds ≡ true → u.live ≡ true) (λ j u. u.builds ≡ true → u.live ≡ true) vs id w all here (λ j u ne f. f)

pub all_snoc : (c x : ℕ) (xs : List ℕ) → AllAtMost c xs → x ≤ c → AllAtMost c (xs ++ x ∷ [])
all_snoc c x [] a le = (le, tt)
all_snoc c x (y ∷ ys) a le = (a.0, all_snoc c x ys a.1 le)

pub all_more : (c d : ℕ) (xs : List ℕ) → c ≤ d → AllAtMost c xs → AllAtMost d xs
all_more c d [] le a = tt
all_more c d (x ∷ xs) le a = (le_trans a.0 le, all_more c d xs le a.1)

-- a seat that has the turn stands before a table whose slot is out with it
pub with_turn : (F : Cells → Type 0) (s : Cells) (id : ℕ) (v : View) → v.live ≡ true → v.turn ≡ true → get_elem? s.views id ≡ some v → Keeps s
    → ((k : Kept s) → holders s.views ≡ 1 → F (cells (k.count ∷ 1 ∷ []) (none ∷ []) s.views)) → F s
with_turn F s id v live on at keep go =
    let k = not_fresh s id v live at keep in let some_one = holders_some s.views id v at on in
    ⊎_elim
    (λ (h : AtHome k.plan k.count s). let nobody = h.1 in absurd (omega arith))
    (λ (o : IsOut s). at_cells F s (k.count ∷ 1 ∷ []) (none ∷ []) (k.words ∙ ap (λ (n : ℕ). k.count ∷ n ∷ []) o.0) o.1 (go k o.0))
    k.slot

-- other seats than the holder, and their fits at a greater count
pub fits_grow : (plan : List Step) (count builder id : ℕ) (v w : View) (vs : Views) → id ≡ builder → holders vs ≡ 1 → get_elem? vs id ≡ some v → v.turn ≡ true → AllFit plan count builder vs → Fits plan (count + 1) builder id w
    → AllFit plan (count + 1) builder (set vs id w)
fits_grow plan count builder id v w vs mine one here on all fits j u at =
    ⊎_elim (λ (t : (j ≡ id) × (w ≡ u)). λ l. subst (λ i. Fits plan (count + 1) builder i u) (sym t.0) (subst (Fits plan (count + 1) builder id) t.1 fits))
    (λ (t : (j ≢ id) × (get_elem? vs j ≡ some u)). λ l. let f = all j u t.1 l in record {
      plan_is = f.plan_is;
      seen = le_trans f.seen (omega arith);
      looks = all_more count (count + 1) u.looks (omega arith) f.looks;
      fed = λ b. absurd (t.0 ((f.fed b).0 ∙ sym mine));
      turn = λ o. absurd (t.0 (holders_one vs id j v u (le_of_eq one) here on t.1 o));
    })
    (at_set vs id j w u at)
