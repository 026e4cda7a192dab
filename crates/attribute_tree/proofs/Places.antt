-- The paths that places tell.
use Rattle.std.proofs.Common.{◌≡◌, ℕ, zero, suc, ◌/◌, ◌%◌, ◌<◌, List, [], ◌∷◌, ◌++◌, length, get_or, slice_get, Option, Some, None, refl, sym, ap, ap₂, ◌∙◌, subst, arith, append_assoc}
use Rattle.std.specs.Prelude.{IsSome, option_map, option_to_list}
use Rattle.std.proofs.lemmas.Option.{slice_get_read}
use Rattle.trace_types.specs.declared.path.Path.{Path as AttributePath}
use Rattle.trace_types.specs.declared.path.Path.TheVariants.{Cpu, Thread}
use Rattle.trace_types.specs.declared.path.ThreadKey.TheVariants.{Idle, Tid}
use Rattle.trace_types.specs.declared.path.CpuLeaf.{CpuLeaf}
use Rattle.trace_types.specs.declared.path.CpuLeaf.TheVariants as cpu_leaf
use Rattle.trace_types.specs.declared.path.ThreadLeaf.{ThreadLeaf}
use Rattle.trace_types.specs.declared.path.ThreadLeaf.TheVariants as thread_leaf
use Rattle.trace_types.specs.Paths.{cpu_leaf_rank, thread_leaf_rank}
use Rattle.attribute_tree.specs.declared.owner.Owner.{Owner}
use Rattle.attribute_tree.specs.Rows.{owner_of, leaf_of}
use Rattle.attribute_tree.specs.Places.{cpu_leaves, thread_leaves, leaf_path, leaf_path_of, path_at, paths_at, AreTold, BeginWith}

-- ---- a path is told by its owner and its leaf
cpu_leaf_at : (l : CpuLeaf) → slice_get cpu_leaves (cpu_leaf_rank l) ≡ Some l
cpu_leaf_at cpu_leaf.Thread = refl
cpu_leaf_at cpu_leaf.Irq = refl
cpu_leaf_at cpu_leaf.Softirq = refl

thread_leaf_at : (l : ThreadLeaf) → slice_get thread_leaves (thread_leaf_rank l) ≡ Some l
thread_leaf_at thread_leaf.Status = refl
thread_leaf_at thread_leaf.Name = refl
thread_leaf_at thread_leaf.Cpu = refl
thread_leaf_at thread_leaf.Prio = refl
thread_leaf_at thread_leaf.Parent = refl
thread_leaf_at thread_leaf.Call = refl

leaf_path_is : (p : AttributePath) → leaf_path (owner_of p) (leaf_of p) ≡ Some p
leaf_path_is (Cpu host cpu l) = ap (option_map (λ m. Cpu host cpu m)) (cpu_leaf_at l)
leaf_path_is (Thread host (Idle cpu) l) = ap (option_map (λ m. Thread host (Idle cpu) m)) (thread_leaf_at l)
leaf_path_is (Thread host (Tid tid) l) = ap (option_map (λ m. Thread host (Tid tid) m)) (thread_leaf_at l)

pub place_path : (owners : List Owner) (p : AttributePath) (row place : ℕ) → slice_get owners row ≡ Some (owner_of p) → place / 8 ≡ row → place % 8 ≡ leaf_of p → path_at owners place ≡ Some p
place_path owners p row place stands row_is leaf_is = ap₂ (λ o l. leaf_path_of o l) (ap (slice_get owners) row_is ∙ stands) leaf_is ∙ leaf_path_is p

-- the owner that is added last
pub last_owner : (owners : List Owner) (o : Owner) → slice_get (owners ++ o ∷ []) (length owners) ≡ Some o
last_owner [] o = refl
last_owner (x ∷ xs) o = last_owner xs o

-- ---- more owners tell the same
owner_stays : (owners more : List Owner) (row : ℕ) (o : Owner) → slice_get owners row ≡ Some o → slice_get (owners ++ more) row ≡ Some o
owner_stays [] more row o e = absurd (cc)
owner_stays (x ∷ xs) more zero o e = e
owner_stays (x ∷ xs) more (suc row) o e = owner_stays xs more row o e

path_stays : (owners more : List Owner) (place : ℕ) → IsSome (path_at owners place) → path_at (owners ++ more) place ≡ path_at owners place
path_stays owners more place some = by (slice_get owners (place / 8)) refl some
  where
    by : (o : Option Owner) → slice_get owners (place / 8) ≡ o → IsSome (leaf_path_of o (place % 8)) → leaf_path_of (slice_get (owners ++ more) (place / 8)) (place % 8) ≡ leaf_path_of (slice_get owners (place / 8)) (place % 8)
    by None e h = absurd (cc)
    by (Some o) e h = ap (λ x. leaf_path_of x (place % 8)) (owner_stays owners more (place / 8) o e ∙ sym e)

paths_stay : (owners more : List Owner) (places : List ℕ) → AreTold owners places → paths_at (owners ++ more) places ≡ paths_at owners places
paths_stay owners more [] told = refl
paths_stay owners more (p ∷ ps) told = ap₂ (λ o l. option_to_list o ++ l) (path_stays owners more p told.0) (paths_stay owners more ps told.1)

told_stay : (owners more : List Owner) (places : List ℕ) → AreTold owners places → AreTold (owners ++ more) places
told_stay owners more [] told = tt
told_stay owners more (p ∷ ps) told = (subst (λ o. IsSome o) (sym (path_stays owners more p told.0)) told.0, told_stay owners more ps told.1)

-- ---- each place tells one path
one_path : (o : Option AttributePath) (paths : List AttributePath) → IsSome o → length (option_to_list o ++ paths) ≡ suc (length paths)
one_path None paths h = absurd (cc)
one_path (Some p) paths h = refl

pub paths_length : (owners : List Owner) (places : List ℕ) → AreTold owners places → length (paths_at owners places) ≡ length places
paths_length owners [] told = refl
paths_length owners (p ∷ ps) told = one_path (path_at owners p) (paths_at owners ps) told.0 ∙ ap suc (paths_length owners ps told.1)

pub path_told : (owners : List Owner) (places : List ℕ) (n place : ℕ) → AreTold owners places → slice_get places n ≡ Some place → IsSome (path_at owners place)
path_told owners [] n place told e = absurd (cc)
path_told owners (p ∷ ps) zero place told e = let same : p ≡ place = cc in subst (λ x. IsSome (path_at owners x)) same told.0
path_told owners (p ∷ ps) (suc n) place told e = path_told owners ps n place told.1 e

pub path_stands : (owners : List Owner) (places : List ℕ) (n place : ℕ) → AreTold owners places → slice_get places n ≡ Some place → slice_get (paths_at owners places) n ≡ path_at owners place
path_stands owners [] n place told e = absurd (cc)
path_stands owners (p ∷ ps) n place told e = by (path_at owners p) refl n told.0 e (λ k. path_stands owners ps k place told.1)
  where
    by : (o : Option AttributePath) → path_at owners p ≡ o → (n : ℕ) → IsSome o → slice_get (p ∷ ps) n ≡ Some place → ((k : ℕ) → slice_get ps k ≡ Some place → slice_get (paths_at owners ps) k ≡ path_at owners place)
        → slice_get (option_to_list o ++ paths_at owners ps) n ≡ path_at owners place
    by None h n some e rest = absurd (cc)
    by (Some q) h zero some e rest = let same : p ≡ place = cc in sym h ∙ ap (path_at owners) same
    by (Some q) h (suc n) some e rest = rest n e

-- what is read at a path's number is its place
pub place_read : (owners : List Owner) (places : List ℕ) (n place : ℕ) → AreTold owners places → n < length (paths_at owners places) → place ≡ get_or places n place → slice_get places n ≡ Some place
place_read owners places n place told h e = slice_get_read places (length places) n place refl (omega (arith, h, paths_length owners places told)) e

-- ---- one more place
paths_push : (owners : List Owner) (places : List ℕ) (place : ℕ) (p : AttributePath) → path_at owners place ≡ Some p → paths_at owners (places ++ place ∷ []) ≡ paths_at owners places ++ p ∷ []
paths_push owners [] place p e = ap (λ o. option_to_list o ++ []) e
paths_push owners (x ∷ xs) place p e = ap (λ l. option_to_list (path_at owners x) ++ l) (paths_push owners xs place p e) ∙ sym (append_assoc (option_to_list (path_at owners x)) (paths_at owners xs) (p ∷ []))

told_push : (owners : List Owner) (places : List ℕ) (place : ℕ) (p : AttributePath) → AreTold owners places → path_at owners place ≡ Some p → AreTold owners (places ++ place ∷ [])
told_push owners [] place p told e = (subst (λ o. IsSome o) (sym e) refl, tt)
told_push owners (x ∷ xs) place p told e = (told.0, told_push owners xs place p told.1 e)

module _ (owners all : List Owner) (begins : BeginWith owners all) (places : List ℕ) (place : ℕ) (p : AttributePath) (told : AreTold owners places) (tells : path_at all place ≡ Some p) where
  pub paths_more : paths_at all (places ++ place ∷ []) ≡ paths_at owners places ++ p ∷ []
  paths_more = paths_push all places place p tells ∙ ap (λ l. l ++ p ∷ []) (ap (λ o. paths_at o places) begins.1 ∙ paths_stay owners begins.0 places told)

  pub told_more : AreTold all (places ++ place ∷ [])
  told_more = told_push all places place p (subst (λ o. AreTold o places) (sym begins.1) (told_stay owners begins.0 places told)) tells
