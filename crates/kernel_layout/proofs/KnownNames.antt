-- Which of the names that are looked for a name counts as, and what the list of a table's names tells of it.
use Rattle.std.proofs.Common.{◌≡◌, ◌∙◌, ℕ, zero, suc, Bool, true, false, cond, List, [], ◌∷◌, slice_get, Option, Some, None, refl, sym, ap, subst}
use Rattle.std.specs.Cmp.Lexicographic.{bytes_decides}
use Rattle.std.specs.List.{find}
use Rattle.std.proofs.lemmas.Bool.{false_from_ne_true}
use Rattle.trace_types.specs.Texts.{is_text}
use Rattle.type_table.specs.Names.{bare, same_name}
use Rattle.type_table.specs.Table.{name_at}
use Rattle.type_table.specs.Types.{Text}
use Rattle.kernel_layout.specs.declared.sought.Sought.{Sought}
use Rattle.kernel_layout.specs.declared.sought.Sought.TheVariants as sought
use Rattle.kernel_layout.specs.Sought.{all_sought, known_of, sought_of, text_of}

-- ---- a name counts as at most one

-- each that is looked for counts as itself
pub itself : (s : Sought) → sought_of (text_of s) ≡ Some s
unfolding sought_of
itself sought.Tid = refl
itself sought.Irq = refl
itself sought.Vec = refl
itself sought.Comm = refl
itself sought.Prio = refl
itself sought.TargetCpu = refl
itself sought.PrevState = refl
itself sought.PrevTid = refl
itself sought.NextTid = refl
itself sought.PrevPrio = refl
itself sought.NextPrio = refl
itself sought.PrevComm = refl
itself sought.NextComm = refl
itself sought.ParentTid = refl
itself sought.ChildTid = refl
itself sought.ChildComm = refl
itself sought.DestCpu = refl
itself sought.Ppid = refl
itself sought.Name = refl
itself sought.Status = refl
itself sought.Sector = refl
itself sought.Dev = refl
itself sought.NrSector = refl
itself sought.Saddr = refl
itself sought.Daddr = refl
itself sought.SourcePort = refl
itself sought.DestPort = refl
itself sought.Seq = refl
itself sought.AckSeq = refl
itself sought.Flags = refl

-- a leading underscore is no matter
same_bare : (a b : Text) → bare a ≡ bare b → sought_of a ≡ sought_of b
unfolding sought_of
same_bare a b e = ap (λ x. find (λ s. is_text (bare (text_of s)) x) all_sought) e

is_found : (name : Text) (ss : List Sought) (s : Sought) → find (λ s. same_name (text_of s) name) ss ≡ Some s → same_name (text_of s) name ≡ true
is_found name [] s e = absurd (cc)
is_found name (x ∷ xs) s e = by (same_name (text_of x) name) refl (is_found name xs s) e
  where
    by : (b : Bool) → same_name (text_of x) name ≡ b → (find (λ s. same_name (text_of s) name) xs ≡ Some s → same_name (text_of s) name ≡ true) → cond b (Some x) (find (λ s. same_name (text_of s) name) xs) ≡ Some s → same_name (text_of s) name ≡ true
    by true is rest e = let same : x ≡ s = cc in subst (λ y. same_name (text_of y) name ≡ true) same is
    by false is rest e = rest e

-- it is the one that it counts as
counts : (name : Text) (s : Sought) → sought_of name ≡ Some s → same_name (text_of s) name ≡ true
unfolding sought_of
counts name s e = is_found name all_sought s e

pub counted : (name : Text) (s : Sought) → same_name (text_of s) name ≡ true → sought_of name ≡ Some s
counted name s e = same_bare name (text_of s) (sym ((bytes_decides (bare (text_of s)) (bare name)).0 e)) ∙ itself s

-- names that count as one
pub as_counted : (name : Text) (k s : Sought) → sought_of name ≡ Some k → same_name (text_of s) (text_of k) ≡ same_name (text_of s) name
as_counted name k s e = ap (λ x. is_text (bare (text_of s)) x) ((bytes_decides (bare (text_of k)) (bare name)).0 (counts name k e))

-- a name that counts as none
pub none_counted : (name : Text) (s : Sought) → sought_of name ≡ None → same_name (text_of s) name ≡ false
none_counted name s e = false_from_ne_true (same_name (text_of s) name) (λ is. let other : sought_of name ≡ Some s = counted name s is in absurd (cc))

-- one that is looked for, of which it is known whether it is another one
pub one_counted : (k s : Sought) (b : Bool) → (b ≡ true → k ≡ s) → (b ≡ false → k ≡ s → ⊥) → b ≡ same_name (text_of s) (text_of k)
one_counted k s true if_true if_false = sym (subst (λ x. same_name (text_of s) (text_of x) ≡ true) (sym (if_true refl)) (counts (text_of s) s (itself s)))
one_counted k s false if_true if_false =
    sym (false_from_ne_true (same_name (text_of s) (text_of k)) (λ e.
    let one : sought_of (text_of k) ≡ Some k = itself k in
    let other : sought_of (text_of k) ≡ Some s = counted (text_of k) s e in
    let same : k ≡ s = cc in
    if_false refl same))

-- ---- what the list tells

pub known_at : (names : List Text) (n : ℕ) (o : Option Sought) → slice_get (known_of names) n ≡ Some o → sought_of (name_at names n) ≡ o
known_at [] n o e = absurd (cc)
known_at ([] ∷ names) n o e = absurd (cc)
known_at ((c ∷ name) ∷ names) zero o e = cc
known_at ((c ∷ name) ∷ names) (suc n) o e = known_at names n o e
