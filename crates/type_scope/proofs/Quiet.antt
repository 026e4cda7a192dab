-- A type without field paths is passed over: looking at it from anywhere changes nothing.
use Rattle.std.proofs.Common.{◌≡◌, ◌∙◌, refl, List, ◌∷◌, Bool, true, false, ◌||◌, Option, None, [], ◌++◌, ap}
use Rattle.type_table.specs.Types.{Text, Ty, Fields, Whole, Named, Str, Struct, Variant, Array, Sequence, No, Field, has_paths, any_has_paths}
use Rattle.type_scope.specs.BlockContexts.{BlockContext}
use Rattle.type_scope.specs.TypeScopes.{Frame, TypeScope, Good, and_then, with_frames, with_field, ended}
use Rattle.type_scope.specs.Rechecked.{inner_name, rechecked, rechecked_all}

along : {A B : Type 0} (f : A → B) (x y : A) → x ≡ y → f x ≡ f y
along f x y h = ap f h

left_false : (a b : Bool) → (a || b) ≡ false → a ≡ false
left_false true b h = absurd (cc)
left_false false b h = refl

right_false : (a b : Bool) → (a || b) ≡ false → b ≡ false
right_false true b h = absurd (cc)
right_false false b h = h

-- the innermost frame with a field that is read, and with one that was read
abbrev entering : Option Text → Frame → Frame
entering inner f = record { is_struct = f.is_struct; inner = inner; fields = f.fields }

abbrev reading : Text → Ty → Frame → Frame
reading name ty f = record { is_struct = f.is_struct; inner = None; fields = f.fields ++ (name, ty) ∷ [] }

mutual
  pub quiet : (a : BlockContext) (ty : Ty) (k : TypeScope) → has_paths ty ≡ false → rechecked a ty k ≡ Good (tt, k)
  quiet a (Whole i) k h = refl
  quiet a (Named i labels) k h = refl
  quiet a Str k h = refl
  quiet a (Struct align fields) k h =
      let all = quiet_all a fields (record { is_struct = true; inner = None; fields = [] }) k.frames k h in
      along (λ r. and_then r (λ _. ended)) _ _ all.1
  quiet a (Variant tag fields) k h = absurd (cc)
  quiet a (Array n item) k h = quiet a item k h
  quiet a (Sequence n item) k h = absurd (cc)

  -- fields without field paths change the innermost frame alone
  pub quiet_all : (a : BlockContext) (fields : Fields) (f : Frame) (frames : List Frame) (k : TypeScope) → any_has_paths fields ≡ false
      → (g : Frame) × (rechecked_all a fields (with_frames (f ∷ frames) k) ≡ Good (tt, with_frames (g ∷ frames) k))
  quiet_all a No f frames k h = (f, refl)
  quiet_all a (Field name ty fields) f frames k h =
      let one = quiet a ty (with_frames (entering (inner_name name ty) f ∷ frames) k) (left_false (has_paths ty) (any_has_paths fields) h) in
      let rest = quiet_all a fields (reading name ty (entering (inner_name name ty) f)) frames k (right_false (has_paths ty) (any_has_paths fields) h) in
      (rest.0, along (λ r. and_then (and_then r (λ _. with_field name ty)) (λ _. rechecked_all a fields)) _ _ one ∙ rest.1)
