-- A path's words, and where its text is cut.
use Rattle.std.proofs.Common.{◌≡◌, ◌≢◌, ℕ, ◌<◌, ◌≤◌, ◌^◌, List, [], ◌∷◌, ◌++◌, if◌then◌else◌, refl, sym, ap, ap₂, ◌∙◌, subst, arith, length, get_or, take, drop, take_all, ◌-◌, codes, append_assoc}
use Rattle.std.specs.List.{AllByRecursion}
use Rattle.std.specs.Prelude.{Option, Some, None, IfNone, ◌==◌}
use Rattle.std.specs.Fmt.{decimal}
use Rattle.std.specs.Str.Parse.{AllDigits}
use Rattle.std.proofs.lemmas.Fmt.{decimal_is_IsNumeral_wide}
use Rattle.std.proofs.lemmas.Str.Parse.{digit_from_value}
use Rattle.trace_types.proofs.Cutting.{same_front, has_end}
use Rattle.trace_types.proofs.Decimals.{wide, below_wide, same_decimal, same_number, decimal_high}
use Rattle.trace_types.proofs.Everywhere.{all_weaker, all_both, visible}
use Rattle.trace_types.specs.declared.path.Path.{Path as AttributePath}
use Rattle.trace_types.specs.declared.path.Path.TheVariants.{Cpu, Thread}
use Rattle.trace_types.specs.declared.path.ThreadKey.{ThreadKey}
use Rattle.trace_types.specs.declared.path.ThreadKey.TheVariants.{Idle, Tid}
use Rattle.trace_types.specs.declared.path.CpuLeaf.{CpuLeaf}
use Rattle.trace_types.specs.declared.path.CpuLeaf.TheVariants as cpu_leaf
use Rattle.trace_types.specs.declared.path.ThreadLeaf.{ThreadLeaf}
use Rattle.trace_types.specs.declared.path.ThreadLeaf.TheVariants as thread_leaf
use Rattle.trace_types.specs.Paths.{path_text, path_words, thread_text, cpu_leaf_text, thread_leaf_text, IsPath, IsThreadKey, SpellsPath, ArePathWords}

abbrev pub NoSlash : List ℕ → Type 0
NoSlash = AllByRecursion (λ b. b ≢ 47)

no_slash : (ds : List ℕ) → AllByRecursion (λ b. 47 < b) ds → NoSlash ds
no_slash ds h = all_weaker (λ b. 47 < b) (λ b. b ≢ 47) ds (λ b k e. omega (arith, k, e)) h

decimal_no_slash : (n limit : ℕ) → n < limit → limit < 2 ^ 64 → NoSlash (decimal n)
decimal_no_slash n limit h g = no_slash (decimal n) (decimal_high n (below_wide n limit h g))

key_no_slash : (k : ThreadKey) → IsThreadKey k → NoSlash (thread_text k)
key_no_slash (Idle cpu) h = ((λ e. omega (arith, e)), ((λ e. omega (arith, e)), decimal_no_slash cpu (2 ^ 32) h (omega arith)))
key_no_slash (Tid tid) h = decimal_no_slash tid (2 ^ 31) h.1 (omega arith)

-- the four words of a path, and that three of them have no slash
record Words (p : AttributePath) : Type 0 where
  host : List ℕ
  kind : List ℕ
  key : List ℕ
  leaf : List ℕ
  words : path_words p ≡ host ∷ kind ∷ key ∷ leaf ∷ []
  text : path_text p ≡ 104 ∷ (host ++ 47 ∷ (kind ++ 47 ∷ (key ++ 47 ∷ leaf)))
  host_whole : NoSlash host
  kind_whole : NoSlash kind
  key_whole : NoSlash key

-- a path's text, with its parts from the right
from_right : (a s b l : List ℕ) → codes "h" ++ a ++ s ++ b ++ codes "/" ++ l ≡ 104 ∷ (a ++ (s ++ (b ++ 47 ∷ l)))
from_right a s b l = append_assoc (codes "h" ++ a ++ s ++ b) (codes "/") l ∙ (append_assoc (codes "h" ++ a ++ s) b (codes "/" ++ l) ∙ append_assoc (codes "h" ++ a) s (b ++ (codes "/" ++ l)))

differs : (a b : ℕ) → a < b → b ≢ a
differs a b h e = omega (arith, h, e)

words_of : (p : AttributePath) → IsPath p → Words p
words_of (Cpu host cpu leaf) h = record {
  host = decimal host;
  kind = codes "Cpu";
  key = decimal cpu;
  leaf = cpu_leaf_text leaf;
  words = refl;
  text = from_right (decimal host) (codes "/Cpu/") (decimal cpu) (cpu_leaf_text leaf);
  host_whole = decimal_no_slash host 64 h.0 (omega arith);
  kind_whole = (differs 47 67 (omega arith), (differs 47 112 (omega arith), (differs 47 117 (omega arith), tt)));
  key_whole = decimal_no_slash cpu (2 ^ 32) h.1 (omega arith);
}
words_of (Thread host thread leaf) h = record {
  host = decimal host;
  kind = codes "Thread";
  key = thread_text thread;
  leaf = thread_leaf_text leaf;
  words = refl;
  text = from_right (decimal host) (codes "/Thread/") (thread_text thread) (thread_leaf_text leaf);
  host_whole = decimal_no_slash host 64 h.0 (omega arith);
  kind_whole = (differs 47 84 (omega arith), (differs 47 104 (omega arith), (differs 47 114 (omega arith), (differs 47 101 (omega arith), (differs 47 97 (omega arith), (differs 47 100 (omega arith), tt))))));
  key_whole = key_no_slash thread h.1;
}

behind : (a b : ℕ) (xs ys : List ℕ) → a ∷ xs ≡ b ∷ ys → xs ≡ ys
behind a b xs ys e = cc

module _ (host kind key leaf : List ℕ) where
  abbrev parts : List ℕ
  parts = host ++ 47 ∷ (kind ++ 47 ∷ (key ++ 47 ∷ leaf))

  pub path_found : (text : List ℕ) (p : AttributePath) → text ≡ 104 ∷ parts → ArePathWords (host ∷ kind ∷ key ∷ leaf ∷ []) p → SpellsPath text p
  path_found text p e h =
      let w = words_of p h.is_path in
      let same : host ∷ kind ∷ key ∷ leaf ∷ [] ≡ w.host ∷ w.kind ∷ w.key ∷ w.leaf ∷ [] = h.spelling ∙ w.words in
      let a : host ≡ w.host = cc in
      let b : kind ≡ w.kind = cc in
      let c : key ≡ w.key = cc in
      let d : leaf ≡ w.leaf = cc in
      record { spelling = e ∙ ((λ i. 104 ∷ (a i ++ 47 ∷ (b i ++ 47 ∷ (c i ++ 47 ∷ d i)))) ∙ sym w.text); is_path = h.is_path }

  pub path_words_are : (text : List ℕ) (p : AttributePath) → text ≡ 104 ∷ parts → NoSlash host → NoSlash kind → NoSlash key → SpellsPath text p → ArePathWords (host ∷ kind ∷ key ∷ leaf ∷ []) p
  path_words_are text p e hs ks ys h =
      let w = words_of p h.is_path in
      let one = same_front 47 host w.host _ _ hs w.host_whole (behind 104 104 _ _ (sym e ∙ (h.spelling ∙ w.text))) in
      let two = same_front 47 kind w.kind _ _ ks w.kind_whole one.1 in
      let three = same_front 47 key w.key _ _ ys w.key_whole two.1 in
      record { spelling = (λ i. one.0 i ∷ two.0 i ∷ three.0 i ∷ three.1 i ∷ []) ∙ sym w.words; is_path = h.is_path }

  pub none_spelled : (o : Option AttributePath) (text : List ℕ) → text ≡ 104 ∷ parts → NoSlash host → NoSlash kind → NoSlash key
      → IfNone o ((p : AttributePath) → ¬ (ArePathWords (host ∷ kind ∷ key ∷ leaf ∷ []) p)) → IfNone o ((p : AttributePath) → ¬ (SpellsPath text p))
  none_spelled None text e hs ks ys none = λ p h. none p (path_words_are text p e hs ks ys h)
  none_spelled (Some q) text e hs ks ys none = tt

-- a text by its first bytes
pub first_is : (text : List ℕ) (b : ℕ) → 1 ≤ length text → get_or text 0 0 ≡ b → text ≡ b ∷ take (length text - 1) (drop 1 text)
first_is [] b h e = absurd (omega arith)
first_is (x ∷ xs) b h e = ap₂ (λ y ys. y ∷ ys) e (sym (take_all (length (x ∷ xs) - 1) xs (omega arith)))

pub first_two_are : (text : List ℕ) (a b : ℕ) → 2 ≤ length text → get_or text 0 0 ≡ a → get_or text 1 0 ≡ b → text ≡ a ∷ b ∷ take (length text - 2) (drop 2 text)
first_two_are [] a b h e f = absurd (omega arith)
first_two_are (x ∷ []) a b h e f = absurd (omega arith)
first_two_are (x ∷ y ∷ xs) a b h e f = (let same = sym (take_all (length (x ∷ y ∷ xs) - 2) xs (omega arith)) in λ i. e i ∷ f i ∷ same i)

-- where a second or a third slash is missing
pub no_second : (text host rest : List ℕ) (p : AttributePath) → text ≡ 104 ∷ (host ++ 47 ∷ rest) → NoSlash host → NoSlash rest → ¬ (SpellsPath text p)
no_second text host rest p e hs rs h =
    let w = words_of p h.is_path in
    let one = same_front 47 host w.host _ _ hs w.host_whole (behind 104 104 _ _ (sym e ∙ (h.spelling ∙ w.text))) in
    has_end 47 w.kind _ (subst NoSlash one.1 rs)

pub no_third : (text host kind rest : List ℕ) (p : AttributePath) → text ≡ 104 ∷ (host ++ 47 ∷ (kind ++ 47 ∷ rest)) → NoSlash host → NoSlash kind → NoSlash rest → ¬ (SpellsPath text p)
no_third text host kind rest p e hs ks rs h =
    let w = words_of p h.is_path in
    let one = same_front 47 host w.host _ _ hs w.host_whole (behind 104 104 _ _ (sym e ∙ (h.spelling ∙ w.text))) in
    let two = same_front 47 kind w.kind _ _ ks w.kind_whole one.1 in
    has_end 47 w.key _ (subst NoSlash two.1 rs)

-- digits hold no underscore
plain_key : (tid : ℕ) (rest : List ℕ) → tid < 2 ^ 31 → 48 ∷ 95 ∷ rest ≢ decimal tid
plain_key tid rest h e =
    let d : AllDigits 10 (48 ∷ 95 ∷ rest) = subst (AllDigits 10) (sym e) (decimal_is_IsNumeral_wide tid (wide tid (below_wide tid (2 ^ 31) h (omega arith)))).0.1 in
    omega (arith, (digit_from_value 95 d.1.0).1)

-- an idle thread's word whose processor is none
pub no_idle : (word rest : List ℕ) → word ≡ 48 ∷ 95 ∷ rest → ((n : ℕ) → n < 2 ^ 32 → rest ≢ decimal n) → (k : ThreadKey) → IsThreadKey k → word ≢ thread_text k
no_idle word rest e none (Idle cpu) h is = none cpu h (behind 95 95 _ _ (behind 48 48 _ _ (sym e ∙ is)))
no_idle word rest e none (Tid tid) h is = plain_key tid rest h.1 (sym e ∙ is)

-- a word of tid 0, which is no thread
pub no_tid : (word : List ℕ) → word ≡ decimal 0 → (k : ThreadKey) → IsThreadKey k → word ≢ thread_text k
no_tid word e (Idle cpu) h is = plain_key 0 (decimal cpu) (omega arith) (sym is ∙ e)
no_tid word e (Tid tid) h is =
    let same : tid ≡ 0 = same_number tid 0 (below_wide tid (2 ^ 31) h.1 (omega arith)) (below_wide 0 1 (omega arith) (omega arith)) (sym is ∙ e) in
    omega (arith, same, h.0)

-- ---- no byte of a path's text is a space or less
abbrev pub IsWord : List ℕ → Type 0
IsWord = AllByRecursion (λ b. 32 < b)

decimal_word : (n limit : ℕ) → n < limit → limit < 2 ^ 64 → IsWord (decimal n)
decimal_word n limit h g = all_weaker (λ b. 47 < b) (λ b. 32 < b) (decimal n) (λ b k. omega (arith, k)) (decimal_high n (below_wide n limit h g))

cpu_leaf_word : (l : CpuLeaf) → IsWord (cpu_leaf_text l)
cpu_leaf_word cpu_leaf.Thread = visible (codes "Thread") refl
cpu_leaf_word cpu_leaf.Irq = visible (codes "Irq") refl
cpu_leaf_word cpu_leaf.Softirq = visible (codes "Softirq") refl

thread_leaf_word : (l : ThreadLeaf) → IsWord (thread_leaf_text l)
thread_leaf_word thread_leaf.Status = visible (codes "Status") refl
thread_leaf_word thread_leaf.Name = visible (codes "Name") refl
thread_leaf_word thread_leaf.Cpu = visible (codes "Cpu") refl
thread_leaf_word thread_leaf.Prio = visible (codes "Prio") refl
thread_leaf_word thread_leaf.Parent = visible (codes "Parent") refl
thread_leaf_word thread_leaf.Call = visible (codes "Call") refl

key_word : (k : ThreadKey) → IsThreadKey k → IsWord (thread_text k)
key_word (Idle cpu) h = all_both (λ b. 32 < b) (codes "0_") (decimal cpu) (visible (codes "0_") refl) (decimal_word cpu (2 ^ 32) h (omega arith))
key_word (Tid tid) h = decimal_word tid (2 ^ 31) h.1 (omega arith)

joined_word : (a s b l : List ℕ) → IsWord a → IsWord s → IsWord b → IsWord l → IsWord (codes "h" ++ a ++ s ++ b ++ codes "/" ++ l)
joined_word a s b l ha hs hb hl =
    all_both (λ b. 32 < b) (codes "h" ++ a ++ s ++ b ++ codes "/") l
    (all_both (λ b. 32 < b) (codes "h" ++ a ++ s ++ b) (codes "/")
    (all_both (λ b. 32 < b) (codes "h" ++ a ++ s) b
    (all_both (λ b. 32 < b) (codes "h" ++ a) s
    (all_both (λ b. 32 < b) (codes "h") a (visible (codes "h") refl) ha) hs) hb) (visible (codes "/") refl)) hl

pub path_word : (p : AttributePath) → IsPath p → IsWord (path_text p)
path_word (Cpu host cpu leaf) h = joined_word (decimal host) (codes "/Cpu/") (decimal cpu) (cpu_leaf_text leaf) (decimal_word host 64 h.0 (omega arith)) (visible (codes "/Cpu/") refl) (decimal_word cpu (2 ^ 32) h.1 (omega arith)) (cpu_leaf_word leaf)
path_word (Thread host thread leaf) h = joined_word (decimal host) (codes "/Thread/") (thread_text thread) (thread_leaf_text leaf) (decimal_word host 64 h.0 (omega arith)) (visible (codes "/Thread/") refl) (key_word thread h.1) (thread_leaf_word leaf)

-- ---- a text spells one path
same_words : (text : List ℕ) (p q : AttributePath) → SpellsPath text p → SpellsPath text q → path_words p ≡ path_words q
same_words text p q h g =
    let w = words_of p h.is_path in
    w.words ∙ (path_words_are w.host w.kind w.key w.leaf text q (h.spelling ∙ w.text) w.host_whole w.kind_whole w.key_whole g).spelling

same_key : (k l : ThreadKey) → IsThreadKey k → IsThreadKey l → thread_text k ≡ thread_text l → k ≡ l
same_key (Idle c) (Idle d) h g e = ap Idle (same_decimal c d (2 ^ 32) h g (omega arith) (behind 95 95 _ _ (behind 48 48 _ _ e)))
same_key (Idle c) (Tid t) h g e = absurd (plain_key t (decimal c) g.1 e)
same_key (Tid t) (Idle c) h g e = absurd (plain_key t (decimal c) h.1 (sym e))
same_key (Tid t) (Tid u) h g e = ap Tid (same_decimal t u (2 ^ 31) h.1 g.1 (omega arith) e)

-- the leaf of a processor or of a thread, from its text
cpu_leaf_in : List ℕ → CpuLeaf
cpu_leaf_in text = if get_or text 0 0 == 84 then cpu_leaf.Thread else if get_or text 0 0 == 73 then cpu_leaf.Irq else cpu_leaf.Softirq

thread_leaf_in : List ℕ → ThreadLeaf
thread_leaf_in text =
    if get_or text 0 0 == 83 then thread_leaf.Status
    else if get_or text 0 0 == 78 then thread_leaf.Name
    else if get_or text 1 0 == 112 then thread_leaf.Cpu
    else if get_or text 1 0 == 114 then thread_leaf.Prio
    else if get_or text 0 0 == 80 then thread_leaf.Parent
    else thread_leaf.Call

cpu_leaf_again : (l : CpuLeaf) → cpu_leaf_in (cpu_leaf_text l) ≡ l
unfolding cpu_leaf_in
cpu_leaf_again cpu_leaf.Thread = refl
cpu_leaf_again cpu_leaf.Irq = refl
cpu_leaf_again cpu_leaf.Softirq = refl

thread_leaf_again : (l : ThreadLeaf) → thread_leaf_in (thread_leaf_text l) ≡ l
unfolding thread_leaf_in
thread_leaf_again thread_leaf.Status = refl
thread_leaf_again thread_leaf.Name = refl
thread_leaf_again thread_leaf.Cpu = refl
thread_leaf_again thread_leaf.Prio = refl
thread_leaf_again thread_leaf.Parent = refl
thread_leaf_again thread_leaf.Call = refl

same_cpu_leaf : (l m : CpuLeaf) → cpu_leaf_text l ≡ cpu_leaf_text m → l ≡ m
same_cpu_leaf l m e = sym (cpu_leaf_again l) ∙ (ap cpu_leaf_in e ∙ cpu_leaf_again m)

same_thread_leaf : (l m : ThreadLeaf) → thread_leaf_text l ≡ thread_leaf_text m → l ≡ m
same_thread_leaf l m e = sym (thread_leaf_again l) ∙ (ap thread_leaf_in e ∙ thread_leaf_again m)

by_words : (p q : AttributePath) → IsPath p → IsPath q → path_words p ≡ path_words q → p ≡ q
by_words (Cpu h c l) (Cpu i d m) is js e =
    let host : h ≡ i = same_decimal h i 64 is.0 js.0 (omega arith) (cc) in
    let cpu : c ≡ d = same_decimal c d (2 ^ 32) is.1 js.1 (omega arith) (cc) in
    let leaf : l ≡ m = same_cpu_leaf l m (cc) in
    λ k. Cpu (host k) (cpu k) (leaf k)
by_words (Cpu h c l) (Thread i t m) is js e = absurd (cc)
by_words (Thread h t l) (Cpu i d m) is js e = absurd (cc)
by_words (Thread h t l) (Thread i u m) is js e =
    let host : h ≡ i = same_decimal h i 64 is.0 js.0 (omega arith) (cc) in
    let thread : t ≡ u = same_key t u is.1 js.1 (cc) in
    let leaf : l ≡ m = same_thread_leaf l m (cc) in
    λ k. Thread (host k) (thread k) (leaf k)

pub one_path : (text : List ℕ) (p q : AttributePath) → SpellsPath text p → SpellsPath text q → p ≡ q
one_path text p q h g = by_words p q h.is_path g.is_path (same_words text p q h g)
