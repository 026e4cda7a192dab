-- Ways from the innermost structure outward.
use Rattle.std.proofs.Common.{◌≡◌, ◌∙◌, ◌++◌, ◌<◌, List, [], ◌∷◌, length, map, reverse, None, ap, refl, sym, arith}
use Rattle.std.proofs.lemmas.List.{map-append, reverse-append, reverse-reverse}
use Rattle.type_scope.specs.declared.scope.Frame.{Frame as FrameKept}
use Rattle.type_scope.specs.Following.{follow}
use Rattle.type_scope.specs.References.{from_inside}
use Rattle.type_table.specs.Table.{Table}
use Rattle.type_table.specs.Types.{Text}
use Rattle.type_scope.specs.View.{frame_at}

along : {A B : Type 0} (f : A → B) (x y : A) → x ≡ y → f x ≡ f y
along f x y h = ap f h

-- from nothing names lead to nothing
from_none : (names : List Text) → follow None names ≡ None
from_none [] = refl
from_none (name ∷ names) = from_none names

-- where no structure is being read nothing is found
pub none_inside : (t : Table) (fs : List FrameKept) (name : Text) (names : List Text) → length fs < 1 → None ≡ from_inside (map (frame_at t) (reverse fs)) name names
none_inside t [] name names h = sym (from_none names)
none_inside t (f ∷ fs) name names h = absurd (omega (arith, h))

reverse_map : {A B : Type 0} (f : A → B) (xs : List A) → map f (reverse xs) ≡ reverse (map f xs)
reverse_map f [] = refl
reverse_map f (x ∷ xs) =
    along (map f) _ _ (reverse-append (x ∷ []) xs) ∙ map-append f (reverse xs) (x ∷ [])
    ∙ along (λ ys. ys ++ f x ∷ []) _ _ (reverse_map f xs) ∙ sym (reverse-append (f x ∷ []) (map f xs))

-- the outermost frame is the first that is kept
pub outermost_first : (t : Table) (fs : List FrameKept) → reverse (map (frame_at t) (reverse fs)) ≡ map (frame_at t) fs
outermost_first t fs = along reverse _ _ (reverse_map (frame_at t) fs) ∙ reverse-reverse (map (frame_at t) fs)
