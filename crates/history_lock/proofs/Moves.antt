-- Each step keeps the rule.
use Rattle.std.proofs.Common.{◌≡◌, ℕ, zero, suc, ◌+◌, ◌<◌, ◌≤◌, ◌^◌, ◌%◌, ◌==◌, true, false, List, [], ◌∷◌, ◌++◌, length, take, slice_index, set, Option, Some, inl, inr, ⊎_elim, sym, refl, ap, ◌∙◌, subst, le_trans, zero-le, le_of_eq, mod-eq_of_lt, true≢false, arith}
use mathlib.Core.Option.{none, some, some-injective}
use lib.ListN.{get_elem?}
use prog.Atomic.{either}
use Rattle.atomic_table.specs.Table.{Act, keeps, takes, gives, Allows, Splits, Joins, Valid, stepped, carried_after, step}
use Rattle.atomic_table.proofs.Lists.{set_again, set_else}
use Rattle.kernel_provider.specs.declared.step.Step.{Step}
use Rattle.history_core.specs.Stands.{HistoryModel, Stands}
use Rattle.history_lock.specs.declared.view.View.{View}
use Rattle.history_lock.specs.Turn.{unborn, spent, starter, taking, missing, looking, finishing, bumping, giving, newcomer, informed, Fits, Views, AllFit, AllBorn, holders, Cells, AtHome, IsOut, Kept, Fresh, Keeps, Mine, Idle, Holds, Begins, Takes, Looks, Finishes, Bumps, Gives}
use Rattle.history_lock.proofs.Lists.{after_snoc, holders_set, holders_same, holders_snoc}
use Rattle.history_lock.proofs.Turns.{cells, at_cells, not_fresh, fits_set, fits_grow, born_set, all_snoc, all_more, with_turn}

-- the turn is free: it is taken, with the slot
takes_free : (plan : List Step) (count builder id slots : ℕ) (v : View) (h : HistoryModel) (vs : Views) → v.live ≡ true → v.turn ≡ false → get_elem? vs id ≡ some v
    → count ≤ length plan → length plan < 2 ^ 64 → Stands (take count plan) h → holders vs ≡ 0 → AllFit plan count builder vs → AllBorn vs
    → (w : View) × (a : Act (Option HistoryModel)) × Valid (some (Some h) ∷ []) [] a
    × Keeps (stepped (cells (count ∷ 0 ∷ []) (some (Some h) ∷ []) vs) 1 1 id [] w a)
    × Takes (step slots 1 0 1 none) (v, []) 0 (w, carried_after [] a)
takes_free plan count builder id slots v h vs live free at within short stands nobody fits born =
    let f = fits id v at live in
    let one : holders (set vs id (taking v count)) ≡ 1 = let all = holders_set vs id v (taking v count) at in let off = ap Rattle.history_lock.specs.Turn.one_if free in omega arith in (
      taking v count,
      takes 0 (Some h),
      refl,
      inr (record {
        plan = plan;
        count = count;
        builder = builder;
        words = ap (λ (n : ℕ). count ∷ n ∷ []) (sym one);
        slot = inr (one, refl);
        within = within;
        short = short;
        fits = fits_set plan count builder id (taking v count) vs fits (λ e. record { plan_is = f.plan_is; seen = f.seen; looks = f.looks; fed = f.fed; turn = λ o. (refl, λ l. absurd (true≢false (sym l))) });
        born = born_set id (taking v count) vs born (λ b. live);
      }),
      ((λ e. (count, h, refl, (subst (λ p. Stands (take count p) h) (sym f.plan_is) stands, f.seen, λ b. (f.fed b).1))), (λ ne. absurd (ne refl))),
    )

-- the turn is out: a miss
takes_out : (plan : List Step) (count builder id slots : ℕ) (v : View) (vs : Views) → v.live ≡ true → v.turn ≡ false → get_elem? vs id ≡ some v
    → count ≤ length plan → length plan < 2 ^ 64 → holders vs ≡ 1 → AllFit plan count builder vs → AllBorn vs
    → (w : View) × (a : Act (Option HistoryModel)) × Valid (none ∷ []) [] a
    × Keeps (stepped (cells (count ∷ 1 ∷ []) (none ∷ []) vs) 1 1 id [] w a)
    × Takes (step slots 1 0 1 none) (v, []) 1 (w, carried_after [] a)
takes_out plan count builder id slots v vs live free at within short one fits born =
    let f = fits id v at live in
    let still : holders (set vs id (missing v)) ≡ 1 = holders_same vs id v (missing v) at refl ∙ one in (
      missing v,
      keeps,
      tt,
      inr (record {
        plan = plan;
        count = count;
        builder = builder;
        words = ap (λ (n : ℕ). count ∷ n ∷ []) (sym still);
        slot = inr (still, refl);
        within = within;
        short = short;
        fits = fits_set plan count builder id (missing v) vs fits (λ e. record { plan_is = f.plan_is; seen = f.seen; looks = f.looks; fed = f.fed; turn = f.turn });
        born = born_set id (missing v) vs born (λ b. live);
      }),
      ((λ e. absurd (omega arith)), (λ ne. refl)),
    )

pub takes_turn : (id slots : ℕ) (m : Mine) → Idle m → Allows Keeps slots id m 1 (λ n. either (n == 0) 1 n) (Takes (step slots 1 0 1 none) m)
takes_turn id slots m idle = subst (λ l. Allows Keeps slots id (m.0, l) 1 (λ n. either (n == 0) 1 n) (Takes (step slots 1 0 1 none) (m.0, l))) (sym idle.0) (λ s keep wide at small.
    let v : View = m.0 in
    let k = not_fresh s id v idle.1 at keep in
    let Goal : Cells → Type 0 = λ x. (w : View) × (a : Act (Option HistoryModel)) × Valid x.homes [] a × Keeps (stepped x 1 (either (slice_index x.words 1 == 0) 1 (slice_index x.words 1)) id [] w a) × Takes (step slots 1 0 1 none) (v, []) (slice_index x.words 1) (w, carried_after [] a) in
    ⊎_elim
    (λ (h : AtHome k.plan k.count s). at_cells Goal s (k.count ∷ 0 ∷ []) (some (Some h.0) ∷ []) (k.words ∙ ap (λ (n : ℕ). k.count ∷ n ∷ []) h.1) h.2 (takes_free k.plan k.count k.builder id slots v h.0 s.views idle.1 idle.2 at k.within k.short h.3 h.1 k.fits k.born))
    (λ (o : IsOut s). at_cells Goal s (k.count ∷ 1 ∷ []) (none ∷ []) (k.words ∙ ap (λ (n : ℕ). k.count ∷ n ∷ []) o.0) o.1 (takes_out k.plan k.count k.builder id slots v s.views idle.1 idle.2 at k.within k.short o.0 k.fits k.born))
    k.slot)

pub looks_at : (id slots : ℕ) (m : Mine) → m.0.live ≡ true → m.0.turn ≡ true → Allows Keeps slots id m 0 (λ n. n) (Looks (step slots 0 0 0 none) m)
looks_at id slots m live on s keep wide at small =
    let v : View = m.0 in
    let Goal : Cells → Type 0 = λ x. (w : View) × (a : Act (Option HistoryModel)) × Valid x.homes m.1 a × Keeps (stepped x 0 (slice_index x.words 0) id m.1 w a) × Looks (step slots 0 0 0 none) m (slice_index x.words 0) (w, carried_after m.1 a) in
    with_turn Goal s id v live on at keep (λ k one. let f = k.fits id v at live in let held = (f.turn on).0 in
    let still : holders (set s.views id (looking v)) ≡ 1 = holders_same s.views id v (looking v) at refl ∙ one in (
      looking v,
      keeps,
      tt,
      inr (record {
        plan = k.plan;
        count = k.count;
        builder = k.builder;
        words = ap (λ (n : ℕ). k.count ∷ n ∷ []) (sym still);
        slot = inr (still, refl);
        within = k.within;
        short = k.short;
        fits = fits_set k.plan k.count k.builder id (looking v) s.views k.fits (λ e. record { plan_is = f.plan_is; seen = le_of_eq held; looks = all_snoc k.count v.held v.looks f.looks (le_of_eq held); fed = f.fed; turn = λ o. (held, λ l. (v.looks, ap (λ (h : ℕ). v.looks ++ h ∷ []) held)) });
        born = born_set id (looking v) s.views k.born (λ b. live);
      }),
      (sym held, refl),
    ))

-- the builder reads the count, which is what it fed
pub finishes_at : (id slots : ℕ) (m : Mine) → Idle m → m.0.builds ≡ true → Allows Keeps slots id m 0 (λ n. n) (Finishes (step slots 0 0 0 none) m)
finishes_at id slots m idle builds s keep wide at small =
    let v : View = m.0 in
    let k = not_fresh s id v idle.1 at keep in let f = k.fits id v at idle.1 in let fed = (f.fed builds).1 in
    let still : holders (set s.views id (finishing v)) ≡ holders s.views = holders_same s.views id v (finishing v) at refl in
    let Goal : Cells → Type 0 = λ x. (w : View) × (a : Act (Option HistoryModel)) × Valid x.homes m.1 a × Keeps (stepped x 0 (slice_index x.words 0) id m.1 w a) × Finishes (step slots 0 0 0 none) m (slice_index x.words 0) (w, carried_after m.1 a) in
    at_cells Goal s (k.count ∷ holders s.views ∷ []) s.homes k.words refl (
      finishing v,
      keeps,
      tt,
      inr (record {
        plan = k.plan;
        count = k.count;
        builder = k.builder;
        words = ap (λ (n : ℕ). k.count ∷ n ∷ []) (sym still);
        slot = ⊎_elim (λ (h : AtHome k.plan k.count s). inl (h.0, still ∙ h.1, h.2, h.3)) (λ (o : IsOut s). inr (still ∙ o.0, o.1)) k.slot;
        within = k.within;
        short = k.short;
        fits = fits_set k.plan k.count k.builder id (finishing v) s.views k.fits (λ e. record { plan_is = f.plan_is; seen = le_of_eq fed; looks = f.looks; fed = λ b. absurd (true≢false (sym b)); turn = λ o. absurd (true≢false (sym o ∙ idle.2)) });
        born = born_set id (finishing v) s.views k.born (λ b. idle.1);
      }),
      (sym fed, refl),
    )

pub bumps_count : (id slots : ℕ) (m : Mine) → m.0.live ≡ true → m.0.turn ≡ true → m.0.builds ≡ true → m.0.loaded ≡ false → m.0.fed < length m.0.plan
    → Allows Keeps slots id m 0 (λ n. (n + 1) % 2 ^ 64) (Bumps (step slots 0 1 0 none) m)
bumps_count id slots m live on builds not_loaded room s keep wide at small =
    let v : View = m.0 in
    let Goal : Cells → Type 0 = λ x. (w : View) × (a : Act (Option HistoryModel)) × Valid x.homes m.1 a × Keeps (stepped x 0 ((slice_index x.words 0 + 1) % 2 ^ 64) id m.1 w a) × Bumps (step slots 0 1 0 none) m (slice_index x.words 0) (w, carried_after m.1 a) in
    with_turn Goal s id v live on at keep (λ k one. let f = k.fits id v at live in let fed = (f.fed builds).1 in let held = (f.turn on).0 in let p : length v.plan ≡ length k.plan = ap length f.plan_is in
    let short = k.short in let more : k.count + 1 ≤ length k.plan = omega arith in
    let still : holders (set s.views id (bumping v)) ≡ 1 = holders_same s.views id v (bumping v) at refl ∙ one in (
      bumping v,
      keeps,
      tt,
      inr (record {
        plan = k.plan;
        count = k.count + 1;
        builder = k.builder;
        words = ap (λ (n : ℕ). n ∷ 1 ∷ []) (mod-eq_of_lt (omega arith)) ∙ ap (λ (n : ℕ). (k.count + 1) ∷ n ∷ []) (sym still);
        slot = inr (still, refl);
        within = more;
        short = k.short;
        fits = fits_grow k.plan k.count k.builder id v (bumping v) s.views (f.fed builds).0 one at on k.fits (record { plan_is = f.plan_is; seen = le_trans f.seen (omega arith); looks = all_more k.count (k.count + 1) v.looks (omega arith) f.looks; fed = λ b. ((f.fed builds).0, ap (λ (n : ℕ). n + 1) fed); turn = λ o. (ap (λ (n : ℕ). n + 1) held, λ l. absurd (true≢false (sym l ∙ not_loaded))) });
        born = born_set id (bumping v) s.views k.born (λ b. live);
      }),
      refl,
    ))

pub gives_turn : (id slots : ℕ) (m : Mine) (h : HistoryModel) → Holds m h → Allows Keeps slots id m 1 (λ _. 0) (λ _. Gives (step slots 1 0 0 none) m 0)
gives_turn id slots m h has = subst (λ l. Allows Keeps slots id (m.0, l) 1 (λ _. 0) (λ _. Gives (step slots 1 0 0 none) (m.0, l) 0)) (sym has.0) (λ s keep wide at small.
    let v : View = m.0 in let live = has.1 in let on = has.2 in
    let Goal : Cells → Type 0 = λ x. (w : View) × (a : Act (Option HistoryModel)) × Valid x.homes ((0, Some h) ∷ []) a × Keeps (stepped x 1 0 id ((0, Some h) ∷ []) w a) × Gives (step slots 1 0 0 none) (v, (0, Some h) ∷ []) 0 (w, carried_after ((0, Some h) ∷ []) a) in
    with_turn Goal s id v live on at keep (λ k one. let f = k.fits id v at live in let held = (f.turn on).0 in
    let nobody : holders (set s.views id (giving v)) ≡ 0 = let all = holders_set s.views id v (giving v) at in let was = ap Rattle.history_lock.specs.Turn.one_if on in omega arith in (
      giving v,
      gives,
      tt,
      inr (record {
        plan = k.plan;
        count = k.count;
        builder = k.builder;
        words = ap (λ (n : ℕ). k.count ∷ n ∷ []) (sym nobody);
        slot = inl (h, nobody, refl, subst (λ p. Stands (take k.count p) h) f.plan_is (subst (λ c. Stands (take c v.plan) h) held has.3));
        within = k.within;
        short = k.short;
        fits = fits_set k.plan k.count k.builder id (giving v) s.views k.fits (λ e. record { plan_is = f.plan_is; seen = f.seen; looks = f.looks; fed = f.fed; turn = λ o. absurd (true≢false (sym o)) });
        born = born_set id (giving v) s.views k.born (λ b. live);
      }),
      refl,
    )))

-- the first seat is told the plan
pub begins : (plan : List Step) (id slots : ℕ) → length plan < 2 ^ 64 → Allows Keeps slots id (unborn, []) 0 (λ n. n) (Begins plan (step slots 0 0 0 none) (unborn, []))
begins plan id slots short s keep wide at small =
    let Goal : Cells → Type 0 = λ x. (w : View) × (a : Act (Option HistoryModel)) × Valid x.homes [] a × Keeps (stepped x 0 (slice_index x.words 0) id [] w a) × Begins plan (step slots 0 0 0 none) (unborn, []) (slice_index x.words 0) (w, carried_after [] a) in
    ⊎_elim
    (λ (f : Fresh s). subst Goal (sym (λ i. record { words = f.1 i; homes = f.2 i; views = f.4 i })) (first f.0 f.3 id (subst (λ l. get_elem? l id ≡ some unborn) f.4 at)))
    (λ (k : Kept s). absurd (true≢false (sym (k.born id unborn at refl))))
    keep
  where
    first : (h : HistoryModel) → Stands [] h → (id : ℕ) → get_elem? (unborn ∷ []) id ≡ some unborn
        → (w : View) × (a : Act (Option HistoryModel)) × Valid (some (Some h) ∷ []) [] a × Keeps (stepped (cells (0 ∷ 0 ∷ []) (some (Some h) ∷ []) (unborn ∷ [])) 0 0 id [] w a) × Begins plan (step slots 0 0 0 none) (unborn, []) 0 (w, carried_after [] a)
    first h stands (suc n) here = absurd (mathlib.Core.Option.some-ne-none unborn (sym here))
    first h stands zero here = (
      starter plan,
      keeps,
      tt,
      inr (record {
        plan = plan;
        count = 0;
        builder = 0;
        words = refl;
        slot = inl (h, refl, refl, stands);
        within = zero-le;
        short = short;
        fits = one (λ j u. u.live ≡ true → Fits plan 0 0 j u) (λ e. record { plan_is = refl; seen = zero-le; looks = tt; fed = λ b. (refl, refl); turn = λ o. absurd (true≢false (sym o)) });
        born = one (λ j u. u.builds ≡ true → u.live ≡ true) (λ b. refl);
      }),
      refl,
    )
      where
        one : (P : ℕ → View → Type 0) → P 0 (starter plan) → (j : ℕ) (u : View) → get_elem? (starter plan ∷ []) j ≡ some u → P j u
        one P p zero u e = subst (P 0) (some-injective (starter plan) u e) p
        one P p (suc j) u e = absurd (mathlib.Core.Option.some-ne-none u (sym e))

-- at a split, a new view that says no more
pub splits_pass : (id : ℕ) (v : View) → v.live ≡ true → Splits Keeps id v v (newcomer v)
splits_pass id v live s keep at =
    let k = not_fresh s id v live at keep in let f = k.fits id v at live in
    let same : set s.views id v ≡ s.views = set_again s.views id v at in
    let still : holders (s.views ++ newcomer v ∷ []) ≡ holders s.views = let all = holders_snoc s.views (newcomer v) in omega arith in
    subst (λ l. Keeps (cells s.words s.homes (l ++ newcomer v ∷ []))) (sym same)
    (inr (record {
      plan = k.plan;
      count = k.count;
      builder = k.builder;
      words = k.words ∙ ap (λ (n : ℕ). k.count ∷ n ∷ []) (sym still);
      slot = ⊎_elim (λ (h : AtHome k.plan k.count s). inl (h.0, still ∙ h.1, h.2, h.3)) (λ (o : IsOut s). inr (still ∙ o.0, o.1)) k.slot;
      within = k.within;
      short = k.short;
      fits = after_snoc (λ j u. u.live ≡ true → Fits k.plan k.count k.builder j u) s.views (newcomer v) k.fits (λ j e. record { plan_is = f.plan_is; seen = f.seen; looks = tt; fed = λ b. absurd (true≢false (sym b)); turn = λ o. absurd (true≢false (sym o)) });
      born = after_snoc (λ j u. u.builds ≡ true → u.live ≡ true) s.views (newcomer v) k.born (λ j b. live);
    }))

-- at a join, a seat takes in another, which is spent
pub joins_pass : (id other : ℕ) (v w : View) → v.live ≡ true → w.live ≡ true → w.turn ≡ false → Joins Keeps id v other w (informed v w) spent
joins_pass id other v w live live' off s keep at apart at' =
    let k = not_fresh s id v live at keep in let f = k.fits id v at live in
    let wat : get_elem? s.views other ≡ some w = sym (set_else s.views id other (informed v w) apart) ∙ at' in
    let g = k.fits other w wat live' in let vs : Views = set s.views id (informed v w) in
    let fits1 = fits_set k.plan k.count k.builder id (informed v w) s.views k.fits (λ e. record { plan_is = f.plan_is; seen = omega (arith, f.seen, g.seen); looks = f.looks; fed = f.fed; turn = f.turn }) in
    let born1 = born_set id (informed v w) s.views k.born (λ b. live) in
    let still : holders (set vs other spent) ≡ holders s.views = holders_same vs other w spent at' (sym off) ∙ holders_same s.views id v (informed v w) at refl in
    inr (record {
      plan = k.plan;
      count = k.count;
      builder = k.builder;
      words = k.words ∙ ap (λ (n : ℕ). k.count ∷ n ∷ []) (sym still);
      slot = ⊎_elim (λ (h : AtHome k.plan k.count s). inl (h.0, still ∙ h.1, h.2, h.3)) (λ (o : IsOut s). inr (still ∙ o.0, o.1)) k.slot;
      within = k.within;
      short = k.short;
      fits = fits_set k.plan k.count k.builder other spent vs fits1 (λ e. absurd (true≢false (sym e)));
      born = born_set other spent vs born1 (λ b. absurd (true≢false (sym b)));
    })
