-- Names and the types that they name.
use Rattle.std.proofs.Common.{◌≡◌, ℕ, ◌<◌, ◌++◌, List, [], ◌∷◌, length, Option, Some, None, option_map, Bool, true, false, map, refl, sym, ap, ◌∙◌, subst, arith, cond, Result, Ok, Err, OnOk, OnErr, ◌≤◌, ℤ, ◌+ℤ◌, pos, option_and_then}
use Rattle.std.specs.List.{AllByRecursion}
use Rattle.std.specs.Map.{lookup}
use Rattle.std.proofs.lemmas.List.{map-append}
use Rattle.trace_types.specs.declared.memory.OutOfMemory.{OutOfMemory}
use Rattle.tsdl_parser.specs.declared.tree.Label.{Label as LabelTree}
use Rattle.type_table.specs.declared.meta.LabelMeta.{LabelMeta}
use Rattle.type_scope.specs.Labels.{label_values, labels_from, labels_said}
use Rattle.type_table.specs.declared.cause.MetaItemCause.TheVariants.{BadAttribute}
use Rattle.type_table.specs.declared.fault.Fault.{Fault}
use Rattle.type_scope.specs.TypeScopes.{State, Gives, enum_of, found_or, pure, sized, ◌>>=◌}
use Rattle.type_table.specs.Types.{Text, Label, Named}
use Rattle.type_table.specs.Table.{Table, AreBelow, Keeps, LabelNamesIn, integer_in, labels_at, name_at, tree, tree_at, trees}
use Rattle.type_scope.specs.View.{TypeScopeModel, NamedIn, names_at, state}
use Rattle.type_table.proofs.Tables.{trees_count}
use Rattle.type_scope.proofs.Views.{all_append, below_rise, words_keep}

along : {A B : Type 0} (f : A → B) (x y : A) → x ≡ y → f x ≡ f y
along f x y h = ap f h

named_by : (b : Bool) (t : Table) (p : ℕ) (o : Option ℕ) → cond b (Some (tree t p)) (option_map (tree t) o) ≡ option_map (tree t) (cond b (Some p) o)
named_by true t p o = refl
named_by false t p o = refl

pub lookup_named : (test : Text → Bool) (t : Table) (es : List (Text × ℕ)) → lookup test (names_at t es) ≡ option_map (tree t) (lookup test es)
lookup_named test t [] = refl
lookup_named test t (e ∷ es) = along (λ o. cond (test e.0) (Some (tree t e.1)) o) _ _ (lookup_named test t es) ∙ named_by (test e.0) t e.1 (lookup test es)

within_by : (b : Bool) (t : Table) (p q : ℕ) (o : Option ℕ) → cond b (Some p) o ≡ Some q → p < length t.types → (o ≡ Some q → q < length t.types) → q < length t.types
within_by true t p q o e h rest = let same : p ≡ q = cc in omega (arith, same, h)
within_by false t p q o e h rest = rest e

within_named : (test : Text → Bool) (t : Table) (es : List (Text × ℕ)) (q : ℕ) → AllByRecursion (NamedIn t) es → lookup test es ≡ Some q → q < length t.types
within_named test t [] q h e = absurd (cc)
within_named test t (e ∷ es) q h is = within_by (test e.0) t e.1 q (lookup test es) is h.0 (within_named test t es q h.1)

-- the type of a name that is found
pub found_named : (test : Text → Bool) (t : Table) (es : List (Text × ℕ)) (p : ℕ) → AllByRecursion (NamedIn t) es → lookup test es ≡ Some p → (lookup test (names_at t es) ≡ Some (tree t p)) × (p < length (trees t))
found_named test t es p h is = (lookup_named test t es ∙ along (option_map (tree t)) _ _ is, omega (arith, within_named test t es p h is, trees_count t.names t.types))

pub none_named : (test : Text → Bool) (t : Table) (es : List (Text × ℕ)) → lookup test es ≡ None → lookup test (names_at t es) ≡ None
none_named test t es is = lookup_named test t es ∙ along (option_map (tree t)) _ _ is

map_none : (t : Table) (o : Option ℕ) → option_map (tree t) o ≡ None → o ≡ None
map_none t None e = refl
map_none t (Some p) e = absurd (cc)

-- a name that is free among the trees is free among the indices
pub free_named : (test : Text → Bool) (t : Table) (es : List (Text × ℕ)) → lookup test (names_at t es) ≡ None → lookup test es ≡ None
free_named test t es is = map_none t (lookup test es) (sym (lookup_named test t es) ∙ is)

pub named_more : (t : Table) (es : List (Text × ℕ)) (name : Text) (p : ℕ) → names_at t (es ++ (name, p) ∷ []) ≡ names_at t es ++ (name, tree t p) ∷ []
named_more t es name p = map-append (λ e. (e.0, tree t e.1)) es ((name, p) ∷ [])

-- names with one more, or none for lack of memory, are in the table
pub named_kept : (t : Table) (es new : List (Text × ℕ)) (name : Text) (p : ℕ) (r : Result (Unit {0}) OutOfMemory) → AllByRecursion (NamedIn t) es → p < length (trees t) → OnOk r (new ≡ es ++ (name, p) ∷ []) → OnErr r (new ≡ es) → AllByRecursion (NamedIn t) new
named_kept t es new name p (Ok u) all there ok err = subst (AllByRecursion (NamedIn t)) (sym ok) (all_append (NamedIn t) es ((name, p) ∷ []) all (omega (arith, there, trees_count t.names t.types), tt))
named_kept t es new name p (Err e) all there ok err = subst (AllByRecursion (NamedIn t)) (sym err) all

-- a type that has a tree is in the table
pub type_there : (k : TypeScopeModel) (n : ℕ) → n < length (state k).types → n < length k.table.types
unfolding state
type_there k n h = omega (arith, h, trees_count k.table.names k.table.types)

below_push : (n : ℕ) (ws : List ℕ) (w : ℕ) → AreBelow n ws → w < n → AreBelow n (ws ++ w ∷ [])
below_push n [] w h k = (k, tt)
below_push n (v ∷ ws) w h k = (h.0, below_push n ws w h.1 k)

-- one more word
pub words_push : (old new : Table) (ws : List ℕ) (n : ℕ) (done : List Text) (w : Text) → Keeps old new → AreBelow (length old.names) ws → map (name_at old.names) ws ≡ done → n < length new.names → name_at new.names n ≡ w
    → AreBelow (length new.names) (ws ++ n ∷ []) × (map (name_at new.names) (ws ++ n ∷ []) ≡ done ++ w ∷ [])
words_push old new ws n done w keeps below is there named = (
  below_push (length new.names) ws n (below_rise (length old.names) (length new.names) ws keeps.more_names below) there,
  map-append (name_at new.names) ws (n ∷ []) ∙ along (λ l. l ++ name_at new.names n ∷ []) _ _ (words_keep old new keeps ws below ∙ is) ∙ along (λ x. done ++ x ∷ []) _ _ named,
)

label_names_push : (n : ℕ) (ls : List LabelMeta) (l : LabelMeta) → l.name < n → LabelNamesIn n ls → LabelNamesIn n (ls ++ l ∷ [])
label_names_push n [] l h all = (h, tt)
label_names_push n (k ∷ ls) l h all = (all.0, label_names_push n ls l h all.1)

label_names_rise : (n m : ℕ) (ls : List LabelMeta) → n ≤ m → LabelNamesIn n ls → LabelNamesIn m ls
label_names_rise n m [] le h = tt
label_names_rise n m (l ∷ ls) le h = (omega (arith, le, h.0), label_names_rise n m ls le h.1)

labels_keep : (old new : Table) (ls : List LabelMeta) → Keeps old new → LabelNamesIn (length old.names) ls → labels_at new.names ls ≡ labels_at old.names ls
labels_keep old new [] keeps h = refl
labels_keep old new (l ∷ ls) keeps h =
    along (λ n. record { name = n; low = l.low; high = l.high } ∷ labels_at new.names ls) _ _ (keeps.names l.name h.0)
    ∙ along (λ rest. record { name = name_at old.names l.name; low = l.low; high = l.high } ∷ rest) _ _ (labels_keep old new ls keeps h.1)

-- one more label
pub labels_push : (old new : Table) (ls : List LabelMeta) (l : LabelMeta) (w : Text) → Keeps old new → LabelNamesIn (length old.names) ls → l.name < length new.names → name_at new.names l.name ≡ w
    → LabelNamesIn (length new.names) (ls ++ l ∷ []) × (labels_at new.names (ls ++ l ∷ []) ≡ labels_at old.names ls ++ record { name = w; low = l.low; high = l.high } ∷ [])
labels_push old new ls l w keeps all there named = (
  label_names_push (length new.names) ls l there (label_names_rise (length old.names) (length new.names) ls keeps.more_names all),
  map-append (λ x. record { name = name_at new.names x.name; low = x.low; high = x.high }) ls (l ∷ [])
      ∙ along (λ rest. rest ++ record { name = name_at new.names l.name; low = l.low; high = l.high } ∷ []) _ _ (labels_keep old new ls keeps all)
      ∙ along (λ x. labels_at old.names ls ++ record { name = x; low = l.low; high = l.high } ∷ []) _ _ named,
)

pub labels_step : (next : ℤ) (done : List Label) (l : LabelTree) (ls : List LabelTree) (low high : ℤ) → label_values next l ≡ Some (low, high)
    → labels_from next done (l ∷ ls) ≡ labels_from (high +ℤ pos 1) (done ++ record { name = l.name; low = low; high = high } ∷ []) ls
labels_step next done l ls low high h = along (λ o. option_and_then (λ v. labels_from (v.1 +ℤ pos 1) (done ++ record { name = l.name; low = v.0; high = v.1 } ∷ []) ls) o) _ _ h

-- an enumeration that was added with labels whose values are in order
pub gives_enum : (old mid new : State) (base : ℕ) (labels : List LabelTree) (ls : List Label) (r : Result ℕ Fault) → mid ≡ old → labels_said labels ≡ Some ls
    → Gives (sized (Named (integer_in (tree_at mid.types base)) ls) mid.known) r new → Gives (enum_of (integer_in (tree_at old.types base)) labels old.known) r new
gives_enum old mid new base labels ls r stays said given =
    subst (λ o. Gives ((found_or o BadAttribute >>= (λ ls. pure (Named (integer_in (tree_at old.types base)) ls))) old.known) r new) (sym said)
    (subst (λ s. Gives (sized (Named (integer_in (tree_at s.types base)) ls) s.known) r new) stays given)
