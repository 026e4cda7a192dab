-- Items one after the other.
use Rattle.std.proofs.Common.{◌≡◌, ℕ, zero, suc, ◌+◌, ◌<◌, ◌≤◌, List, [], ◌∷◌, ◌++◌, length, take, get_or, fold, Bool, true, false, nat_lt, None, refl, sym, ap, ◌∙◌, subst, arith}
use Rattle.std.proofs.lemmas.Bool.{ltb-true, ltb-false}
use Rattle.tsdl_lex.specs.declared.token.Token.{Token}
use Rattle.tsdl_parser.specs.declared.tree.Decl.{Decl}
use Rattle.tsdl_parser.specs.declared.tree.Item.{Item}
use Rattle.tsdl_parser.specs.Symbols.{symbol_of}
use Rattle.tsdl_parser.specs.Reading.{MAX_BRACES, item}
use Rattle.tsdl_parser.specs.Depth.{opened_by, opened, IsTooDeep, IsShallow}
use Rattle.tsdl_parser.specs.Grammar.{Tokens, IsFieldsWithin, IsItem}
use Rattle.tsdl_parser.specs.Declarations.{Leads, IsParsed, IsRefused}
use Rattle.tsdl_parser.proofs.Steps.{gives, pair_is}
use Rattle.tsdl_parser.proofs.Passing.{Fits, Passes, fields_pass, item_passes}
use Rattle.tsdl_parser.proofs.ItemsGiving.{item_gives}
use Rattle.tsdl_parser.proofs.ItemsSound.{item_sound}

abbrev opened_from : ℕ → Tokens → ℕ
opened_from n ts = fold (λ n token. opened_by n (symbol_of token.kind)) n ts

fits_from : (n : ℕ) (ts : Tokens) → ((m : ℕ) → m ≤ length ts → opened_from n (take m ts) ≤ MAX_BRACES) → Fits n ts
fits_from n [] h = h 0 (omega arith)
fits_from n (t ∷ ts) h = (h 0 (omega arith), fits_from (opened_by n (symbol_of t.kind)) ts (λ m within. h (suc m) (omega (arith, within))))

pub shallow_fits : (ts : Tokens) → IsShallow ts → Fits 0 ts
shallow_fits ts h = fits_from 0 ts h

pub passes_item : (ts : Tokens) (i : Item) (rest : Tokens) → IsItem ts i rest → Passes ts rest
passes_item ts i rest h = item_passes (IsFieldsWithin h.0) (fields_pass h.0) ts i rest h.1

pub reads_item : (ts : Tokens) (i : Item) (rest : Tokens) → Fits 0 ts → IsItem ts i rest → item ts ≡ gives i rest
reads_item ts i rest fits h = item_gives h.0 ts i rest fits h.1

pub is_item : (ts : Tokens) (i : Item) (rest : Tokens) → item ts ≡ gives i rest → IsItem ts i rest
is_item ts i rest e = (MAX_BRACES, item_sound ts i rest e)

pub no_item : (ts : Tokens) → Fits 0 ts → item ts ≡ None → (i : Item) (rest : Tokens) → IsItem ts i rest → ⊥
no_item ts fits none i rest h = let e = reads_item ts i rest fits h in absurd (cc)

pub leads_more : (total : ℕ) (ts : Tokens) (decls : List Decl) (rest after : Tokens) (d : Decl) → Leads total ts decls rest → IsItem rest d.item after → d.first + length rest ≡ total → Leads total ts (decls ++ d ∷ []) after
leads_more total ts [] rest after d h is place = subst (λ l. Leads total l (d ∷ []) after) (sym h) (after, is, place, refl)
leads_more total ts (x ∷ decls) rest after d h is place = (h.0, h.1, h.2, leads_more total h.0 decls rest after d h.3 is place)

pub leads_fit : (total : ℕ) (ts : Tokens) (decls : List Decl) (rest : Tokens) → Fits 0 ts → Leads total ts decls rest → Fits 0 rest
leads_fit total ts [] rest fits h = subst (Fits 0) h fits
leads_fit total ts (d ∷ decls) rest fits h = leads_fit total h.0 decls rest ((passes_item ts d.item h.0 h.1).fits 0 fits) h.3

same_item : (ts : Tokens) (i j : Item) (a b : Tokens) → Fits 0 ts → IsItem ts i a → IsItem ts j b → (i ≡ j) × (a ≡ b)
same_item ts i j a b fits h g = pair_is (sym (reads_item ts i a fits h) ∙ reads_item ts j b fits g)

empty_none : (i : Item) (a : Tokens) → IsItem [] i a → ⊥
empty_none i a h = let p = (passes_item [] i a h).less in omega (arith, p)

one_way : (total : ℕ) (ts : Tokens) (xs ys : List Decl) → Fits 0 ts → Leads total ts xs [] → Leads total ts ys [] → xs ≡ ys
one_way total ts [] [] fits h g = refl
one_way total ts [] (y ∷ ys) fits h g = absurd (empty_none y.item g.0 (subst (λ l. IsItem l y.item g.0) h g.1))
one_way total ts (x ∷ xs) [] fits h g = absurd (empty_none x.item h.0 (subst (λ l. IsItem l x.item h.0) g h.1))
one_way total ts (x ∷ xs) (y ∷ ys) fits h g =
    let same = same_item ts x.item y.item h.0 g.0 fits h.1 g.1 in
    let place : x.first ≡ y.first = let a = h.2 in let b = g.2 in omega (arith, a, b) in
    let others = one_way total h.0 xs ys ((passes_item ts x.item h.0 h.1).fits 0 fits) h.3 (subst (λ l. Leads total l ys []) (sym same.1) g.3) in
    (λ k. record { first = place k; item = same.0 k } ∷ others k)

pub one_list : (tokens : Tokens) (xs ys : List Decl) → IsParsed tokens xs → IsParsed tokens ys → xs ≡ ys
one_list tokens xs ys h g = one_way (length tokens) tokens xs ys (shallow_fits tokens h.shallow) h.leads g.leads

pub not_too_deep : (tokens : Tokens) (xs : List Decl) (token : ℕ) → IsParsed tokens xs → IsTooDeep tokens token → ⊥
not_too_deep tokens xs token h g = let few = h.shallow token g.within in let many = g.deep in omega (arith, few, many)

not_here : (total : ℕ) (ts rest : Tokens) (xs ys : List Decl) → Fits 0 ts → Leads total ts xs [] → Leads total ts ys rest → 0 < length rest → ((i : Item) (after : Tokens) → IsItem rest i after → ⊥) → ⊥
not_here total ts rest [] [] fits h g some none = let size : length rest ≡ 0 = ap length (sym g ∙ h) in omega (arith, size, some)
not_here total ts rest [] (y ∷ ys) fits h g some none = empty_none y.item g.0 (subst (λ l. IsItem l y.item g.0) h g.1)
not_here total ts rest (x ∷ xs) [] fits h g some none = none x.item h.0 (subst (λ l. IsItem l x.item h.0) g h.1)
not_here total ts rest (x ∷ xs) (y ∷ ys) fits h g some none =
    let same = same_item ts x.item y.item h.0 g.0 fits h.1 g.1 in
    not_here total h.0 rest xs ys ((passes_item ts x.item h.0 h.1).fits 0 fits) h.3 (subst (λ l. Leads total l ys rest) (sym same.1) g.3) some none

pub not_refused : (tokens : Tokens) (xs : List Decl) (number : ℕ) → IsParsed tokens xs → IsRefused tokens number → ⊥
not_refused tokens xs number h g = not_here (length tokens) tokens g.rest xs g.decls (shallow_fits tokens h.shallow) h.leads g.leads g.some g.none

-- tokens are too deep after one of them at most
pub one_depth : (tokens : Tokens) (a b : ℕ) → IsTooDeep tokens a → IsTooDeep tokens b → a ≡ b
one_depth tokens a b h g = by (nat_lt a b) refl (nat_lt b a) refl
  where
    by : (less : Bool) → nat_lt a b ≡ less → (more : Bool) → nat_lt b a ≡ more → a ≡ b
    by true e more f = absurd (let few = g.first a (ltb-true a b e) in let many = h.deep in omega (arith, few, many))
    by false e true f = absurd (let few = h.first b (ltb-true b a f) in let many = g.deep in omega (arith, few, many))
    by false e false f = omega (arith, ltb-false a b e, ltb-false b a f)

-- and then they are refused at no item
pub shallow_or_deep : (tokens : Tokens) (token number : ℕ) → IsTooDeep tokens token → IsRefused tokens number → ⊥
shallow_or_deep tokens token number h g = let few = g.shallow token h.within in let many = h.deep in omega (arith, few, many)

-- two ways to where no item begins are as long
one_end : (total : ℕ) (ts r q : Tokens) (xs ys : List Decl) → Fits 0 ts → Leads total ts xs r → Leads total ts ys q → ((i : Item) (after : Tokens) → IsItem r i after → ⊥) → ((i : Item) (after : Tokens) → IsItem q i after → ⊥) → length xs ≡ length ys
one_end total ts r q [] [] fits h g none other = refl
one_end total ts r q [] (y ∷ ys) fits h g none other = absurd (none y.item g.0 (subst (λ l. IsItem l y.item g.0) h g.1))
one_end total ts r q (x ∷ xs) [] fits h g none other = absurd (other x.item h.0 (subst (λ l. IsItem l x.item h.0) g h.1))
one_end total ts r q (x ∷ xs) (y ∷ ys) fits h g none other =
    let same = same_item ts x.item y.item h.0 g.0 fits h.1 g.1 in
    let rest = one_end total h.0 r q xs ys ((passes_item ts x.item h.0 h.1).fits 0 fits) h.3 (subst (λ l. Leads total l ys q) (sym same.1) g.3) none other in
    omega (arith, rest)

-- they are refused at one item at most
pub one_refusal : (tokens : Tokens) (a b : ℕ) → IsRefused tokens a → IsRefused tokens b → a ≡ b
one_refusal tokens a b h g =
    let same = one_end (length tokens) tokens h.rest g.rest h.decls g.decls (shallow_fits tokens h.shallow) h.leads g.leads h.none g.none in
    omega (arith, same, h.number, g.number)

-- what was read up to a place
pub record HasRead (tokens rest : Tokens) (decls : List Decl) : Type 0 where
  pub leads : Leads (length tokens) tokens decls rest
  pub fits : Fits 0 rest
  pub less : length rest ≤ length tokens

pub read_none : (tokens : Tokens) → IsShallow tokens → HasRead tokens tokens []
read_none tokens h = record { leads = refl; fits = shallow_fits tokens h; less = omega arith }

pub read_more : (tokens rest after : Tokens) (decls : List Decl) (d : Decl) → HasRead tokens rest decls → item rest ≡ gives d.item after → d.first + length rest ≡ length tokens → HasRead tokens after (decls ++ d ∷ [])
read_more tokens rest after decls d h e place =
    let is = is_item rest d.item after e in
    let p = passes_item rest d.item after is in
    record { leads = leads_more (length tokens) tokens decls rest after d h.leads is place; fits = p.fits 0 h.fits; less = let l = p.less in let m = h.less in omega (arith, l, m) }

pub read_less : (rest after : Tokens) (i : Item) → item rest ≡ gives i after → length after < length rest
read_less rest after i e = (passes_item rest i after (is_item rest i after e)).less

opened_at : (k : ℕ) (ts : Tokens) (n : ℕ) (d : Token) → n < length ts → opened_from k (take (suc n) ts) ≡ opened_by (opened_from k (take n ts)) (symbol_of (get_or ts n d).kind)
opened_at k [] n d inside = absurd (omega arith)
opened_at k (t ∷ ts) zero d inside = refl
opened_at k (t ∷ ts) (suc n) d inside = opened_at (opened_by k (symbol_of t.kind)) ts n d (omega arith)

pub opened_more : (ts : Tokens) (n : ℕ) (d : Token) → n < length ts → opened (take (n + 1) ts) ≡ opened_by (opened (take n ts)) (symbol_of (get_or ts n d).kind)
opened_more ts n d inside = let e : n + 1 ≡ suc n = omega arith in ap (λ m. opened (take m ts)) e ∙ opened_at 0 ts n d inside
