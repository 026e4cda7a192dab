-- One more event of a list that is brought to another clock, and one more root.
use Rattle.std.proofs.Common.{◌≡◌, ◌≢◌, ◌<◌, ◌+◌, ◌^◌, ℕ, Some, Bool, true, false, if◌then◌else◌, nat_lt, List, [], ◌∷◌, ◌++◌, length, get_or, set, take, slice_get, unwrap_or, refl, sym, ap, ap₂, ◌∙◌, subst, append_assoc}
use Rattle.std.specs.List.{flat_map}
use Rattle.std.proofs.lemmas.List.{append-nil, length-set, take_more}
use Rattle.std.proofs.lemmas.Option.{slice_get_read, slice_get_within}
use Rattle.clock_fraction.specs.ClockMap.{IsMapAt}
use Rattle.clock_fraction.specs.declared.pair_map.PairMap.{PairMap}
use Rattle.host_tree.specs.declared.parent.Parent.{Parent}
use Rattle.host_tree.specs.declared.parent.Parent.TheVariants.{Root}
use Rattle.host_tree.proofs.Gets.{at_set, beside_set, one_get}
use Rattle.stable_sort.specs.Sorted.{put_in}
use Rattle.trace_types.specs.declared.event.Merged.{Merged}
use Rattle.host_merge.specs.Lists.{AreTimed, IsBroughtUp, IsJoined, sorted_at}
use Rattle.host_merge.specs.Merge.{AreBrought, by_key, is_root, roots_below}
use Rattle.host_merge.proofs.Brought.{key_of}
use Rattle.host_merge.proofs.Filters.{sorted_again, sorted_joined}
use Rattle.host_merge.proofs.Ranges.{below_yes, flat_push}

brought_push : (m : PairMap) (xs ys : List Merged) (x y : Merged) → AreBrought m xs ys → y.event ≡ x.event → IsMapAt m x.key y.key → AreBrought m (xs ++ x ∷ []) (ys ++ y ∷ [])
brought_push m [] [] x y a e k = (e, k, tt)
brought_push m [] (z ∷ ys) x y a e k = absurd a
brought_push m (w ∷ xs) [] x y a e k = absurd a
brought_push m (w ∷ xs) (z ∷ ys) x y a e k = (a.0, a.1, brought_push m xs ys x y a.2 e k)

pub timed_append : (xs ys : List Merged) → AreTimed xs → AreTimed ys → AreTimed (xs ++ ys)
timed_append [] ys a b = b
timed_append (x ∷ xs) ys a b = (a.0, timed_append xs ys a.1 b)

pub none_joined : (m : PairMap) (list old : List Merged) → list ≡ old → IsJoined m [] old list
none_joined m list old e = record { brought = []; are = tt; timed = tt; in_order = ap by_key (e ∙ sym (append-nil old)) }

pub joined_more : (m : PairMap) (events old list : List Merged) (i : ℕ) (x y : Merged) → i < length events → x ≡ get_or events i x → y.event ≡ x.event → IsMapAt m x.key y.key → y.key < 2 ^ 62
    → IsJoined m (take i events) old list → IsJoined m (take (i + 1) events) old (list ++ y ∷ [])
joined_more m events old list i x y inside at event mapped below j =
    let more : take (i + 1) events ≡ take i events ++ x ∷ [] = take_more events i x inside ∙ ap (λ z. take i events ++ z ∷ []) (sym at) in
    record {
      brought = j.brought ++ y ∷ [];
      are = subst (λ xs. AreBrought m xs (j.brought ++ y ∷ [])) (sym more) (brought_push m (take i events) j.brought x y j.are event mapped);
      timed = timed_append j.brought (y ∷ []) j.timed (below, tt);
      in_order = sorted_joined key_of list (old ++ j.brought) (y ∷ []) j.in_order ∙ ap by_key (append_assoc old j.brought (y ∷ []));
    }

-- a list may be sorted before another one is joined to it
pub joined_unsorted : (m : PairMap) (events old new : List Merged) → IsJoined m events (by_key old) new → IsJoined m events old new
joined_unsorted m events old new j = record {
  brought = j.brought;
  are = j.are;
  timed = j.timed;
  in_order = j.in_order ∙ sorted_joined key_of (by_key old) old j.brought (sorted_again key_of old);
}

pub by_own_order : (xs ys : List Merged) → xs ≡ by_key ys → xs ≡ by_key xs
by_own_order xs ys e = e ∙ (sym (sorted_again key_of ys) ∙ ap by_key (sym e))

pub sorted_is : (lists : List (List Merged)) (u : ℕ) (l : List Merged) → slice_get lists u ≡ Some l → sorted_at lists u ≡ by_key l
sorted_is lists u l e = ap (λ o. by_key (unwrap_or o [])) e

pub one_root_more : (parents : List Parent) (lists : List (List Merged)) (host : ℕ) (whole l : List Merged) → slice_get parents host ≡ Some Root → slice_get lists host ≡ Some l
    → whole ≡ flat_map (sorted_at lists) (roots_below parents host) → whole ++ by_key l ≡ flat_map (sorted_at lists) (roots_below parents (host + 1))
one_root_more parents lists host whole l root at is =
    ap₂ (λ a b. a ++ b) is (sym (sorted_is lists host l at))
    ∙ (sym (flat_push (sorted_at lists) (roots_below parents host) host)
    ∙ ap (flat_map (sorted_at lists)) (sym (below_yes (λ c. is_root (slice_get parents c)) host (ap is_root root))))

timed_put : (x : Merged) (xs : List Merged) → x.key < 2 ^ 62 → AreTimed xs → AreTimed (put_in (λ m. m.key) x xs)
timed_put x [] h g = (h, tt)
timed_put x (y ∷ ys) h g = by (nat_lt y.key x.key) (timed_put x ys h g.1)
  where
    by : (b : Bool) → AreTimed (put_in (λ m. m.key) x ys) → AreTimed (if b then y ∷ put_in (λ m. m.key) x ys else x ∷ y ∷ ys)
    by true rest = (g.0, rest)
    by false rest = (h, g)

pub timed_sorted : (xs : List Merged) → AreTimed xs → AreTimed (by_key xs)
timed_sorted [] h = tt
timed_sorted (x ∷ xs) h = timed_put x (by_key xs) h.0 (timed_sorted xs h.1)

timed_taken : (x : Merged) (xs : List Merged) → AreTimed (put_in (λ m. m.key) x xs) → (x.key < 2 ^ 62) × AreTimed xs
timed_taken x [] h = (h.0, tt)
timed_taken x (y ∷ ys) h = by (nat_lt y.key x.key) (timed_taken x ys) h
  where
    by : (b : Bool) → (AreTimed (put_in (λ m. m.key) x ys) → (x.key < 2 ^ 62) × AreTimed ys) → AreTimed (if b then y ∷ put_in (λ m. m.key) x ys else x ∷ y ∷ ys) → (x.key < 2 ^ 62) × AreTimed (y ∷ ys)
    by true rest g = let r = rest g.1 in (r.0, (g.0, r.1))
    by false rest g = (g.0, g.1)

timed_unsorted : (xs : List Merged) → AreTimed (by_key xs) → AreTimed xs
timed_unsorted [] h = tt
timed_unsorted (x ∷ xs) h = let t = timed_taken x (by_key xs) h in (t.0, timed_unsorted xs t.1)

pub timed_joined : (m : PairMap) (events old new : List Merged) → AreTimed old → IsJoined m events old new → AreTimed new
timed_joined m events old new timed j = timed_unsorted new (subst AreTimed (sym j.in_order) (timed_sorted (old ++ j.brought) (timed_append old j.brought timed j.timed)))

pub brought_up : (host parent : ℕ) (m : PairMap) (old : List (List Merged)) (none theirs events new : List Merged) → host < length old → parent < length old → host ≢ parent → none ≡ []
    → theirs ≡ get_or (set old host none) parent theirs → (mine : List Merged) → mine ≡ get_or old host mine → events ≡ by_key mine → IsJoined m events theirs new → IsBroughtUp host parent m old (set (set old host none) parent new)
brought_up host parent m old none theirs events new hh ph apart is_none theirs_at mine mine_at events_is j =
    let back : parent ≢ host = λ s. apart (sym s) in
    record {
      count = length-set (set old host none) parent new ∙ length-set old host none;
      emptied = beside_set (set old host none) parent host new apart ∙ (at_set old host none hh ∙ ap Some is_none);
      joined = λ l k e f.
          let l_is : mine ≡ l = one_get old host mine l (slice_get_read old (length old) host mine refl hh mine_at) e in
          let at : slice_get (set old host none) parent ≡ Some theirs = slice_get_read (set old host none) (length old) parent theirs (sym (length-set old host none)) ph theirs_at in
          let k_is : theirs ≡ k = one_get (set old host none) parent theirs k at (beside_set old host parent none back ∙ f) in (
            new,
            at_set (set old host none) parent new (slice_get_within (set old host none) parent theirs at),
            subst (λ x. IsJoined m x k new) (events_is ∙ ap by_key l_is) (subst (λ x. IsJoined m events x new) k_is j),
          );
      others = λ k not ne. beside_set (set old host none) parent k new ne ∙ beside_set old host k none not;
    }
