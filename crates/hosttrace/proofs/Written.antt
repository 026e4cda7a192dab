-- What a sink gained, from one call to the next.
use Rattle.std.proofs.Common.{◌≡◌, ℕ, List, [], ◌++◌, Option, Some, None, sym, ap, ◌∙◌, append_assoc, append-nil, take-append-drop, take_all, length, length-drop, ◌-◌, arith}
use Rattle.std.specs.Prelude.{take, drop}
use Rattle.std.specs.Io.KnownBytes.{Appends, Keeps}
use Rattle.hosttrace.specs.Writing.{AppendsFront}

pub Appends-nothing : (a : Option (List ℕ)) → Appends a a []
Appends-nothing None = tt
Appends-nothing (Some xs) = sym (append-nil xs)

pub Appends-append : (a b c : Option (List ℕ)) (f g : List ℕ) → Appends a b f → Appends b c g → Appends a c (f ++ g)
Appends-append None b c f g h k = tt
Appends-append (Some xs) None c f g h k = absurd h
Appends-append (Some xs) (Some ys) None f g h k = absurd k
Appends-append (Some xs) (Some ys) (Some zs) f g h k = k ∙ (ap (λ l. l ++ g) h ∙ append_assoc xs f g)

pub Appends-kept : (a b c : Option (List ℕ)) (f : List ℕ) → Appends a b f → Keeps b c → Appends a c f
Appends-kept None b c f h k = tt
Appends-kept (Some xs) None c f h k = absurd h
Appends-kept (Some xs) (Some ys) None f h k = absurd k
Appends-kept (Some xs) (Some ys) (Some zs) f h k = k ∙ h

-- what was written and what is left, after n more bytes
pub written_more : (text front rest : List ℕ) (n : ℕ) → text ≡ front ++ rest → text ≡ (front ++ take n rest) ++ take (length rest - n) (drop n rest)
written_more text front rest n e =
    e ∙ (ap (λ l. front ++ l) (sym (take-append-drop n rest) ∙ ap (λ l. take n rest ++ l) (sym (take_all (length rest - n) (drop n rest) (omega (arith, length-drop n rest))))) ∙ sym (append_assoc front (take n rest) _))

-- what is a front of a part is one of the whole, where all before the part was written
pub front_after : (a b c : Option (List ℕ)) (whole before part after : List ℕ) → whole ≡ before ++ (part ++ after) → Appends a b before → AppendsFront b c part → AppendsFront a c whole
front_after a b c whole before part after e h k = record {
  front = before ++ k.front;
  rest = k.rest ++ after;
  parts = e ∙ (ap (λ l. before ++ l) (ap (λ l. l ++ after) k.parts ∙ append_assoc k.front k.rest after) ∙ sym (append_assoc before k.front (k.rest ++ after)));
  appends = Appends-append a b c before k.front h k.appends;
}

-- a front of the first part is one of the whole
pub front_of_head : (a b : Option (List ℕ)) (head rest : List ℕ) → AppendsFront a b head → AppendsFront a b (head ++ rest)
front_of_head a b head rest k = record {
  front = k.front;
  rest = k.rest ++ rest;
  parts = ap (λ l. l ++ rest) k.parts ∙ append_assoc k.front k.rest rest;
  appends = k.appends;
}

-- and so is the first part with a front of the second
pub front_of_rest : (a b c : Option (List ℕ)) (head rest : List ℕ) → Appends a b head → AppendsFront b c rest → AppendsFront a c (head ++ rest)
front_of_rest a b c head rest h k = record {
  front = head ++ k.front;
  rest = k.rest;
  parts = ap (λ l. head ++ l) k.parts ∙ sym (append_assoc head k.front k.rest);
  appends = Appends-append a b c head k.front h k.appends;
}
