-- What is known of type names tells what the shapes in which they stand expand to.
use Rattle.std.specs.Prelude.{nat_le, nat_lt, nat_eq, IfSome}
use Rattle.std.proofs.Common.{◌≡◌, refl, sym, ap, subst, ◌∙◌, ℕ, zero, suc, ◌+◌, ◌*◌, ◌/◌, ◌<◌, ◌≤◌, ◌^◌, max, Bool, true, false, cond, not, ◌&&◌, List, [], ◌∷◌, length, map, get_or, set, replicate, Option, None, Some, Result, Ok, Err, inl, inr, arith}
use Rattle.std.proofs.lemmas.Bool.Decides.{nat_tests}
use Rattle.std.proofs.lemmas.Bool.{and_parts, leb-true, leb-false, cases_eq}
use Rattle.std.proofs.lemmas.List.{get_or-set_same, get_or-set_other}
use Rattle.std.specs.List.{position_or_len}
use Rattle.ir_lex.specs.Tok.{Tok}
use Rattle.ir_parse_parts.specs.declared.shape.Typed.{Typed}
use Rattle.ir_parse_parts.specs.Shapes.{Written, int, pointer, array, structure, named, WrittenParts, no_parts, part, list_of}
use Rattle.ir_tree.specs.Formed.{nesting, deepest}
use Rattle.ir_tree.specs.Forms as tree
use Rattle.ir_tree.specs.Forms.{Form, forms_of}
use Rattle.ir_tree.specs.Layout as layout
use Rattle.ir_tree.specs.Layout.{AreLaidOut}
use Rattle.ir_parse_names.specs.declared.fault.Fault.{Fault}
use Rattle.ir_parse_names.specs.declared.fault.NameFault.TheVariants.{Limit, Unknown}
use Rattle.ir_parse_names.specs.Bodies.{allocated}
use Rattle.ir_parse_names.specs.Keys.{Key, key_of, same_key}
use Rattle.ir_parse_names.specs.Resolving.{◌>>=◌, each}
use Rattle.ir_parse_names.specs.Stages.{Passes, passes}
use Rattle.ir_parse_names.specs.TypeNames.{place_of}
use Rattle.ir_parse_names.specs.Types as typing
use Rattle.ir_parse_names.specs.Types.{Types, or_unknown, entry_of, entry_in, shape_in, shape_at, head_from, chased, head_of, is_width, limit, expand, opened, without_parts, expanded}
use Rattle.ir_parse_names.proofs.Chains.{head_more, any_line, through}
use Rattle.ir_parse_sizes.specs.declared.measure.Measure.{Measure}
use Rattle.ir_parse_sizes.specs.declared.weigh.Known.{Known}
use Rattle.ir_parse_sizes.specs.Measures.{Fits, AllFit, measure, within, scalar, array_of, begins, ends, widest, deepest_of, struct_size, struct_align, structure_of, or_limit, known_as, known_at, weigh, weigh_all, told, IsMeasured, IsKnown, IsKnownIf, AreKnown, chained, IsSmall, IsKnownSmall, AreKnownSmall}

-- ---- tests

le_step : (a k : ℕ) → nat_le (a + 1) (suc k) ≡ nat_le a k
le_step a k = grind (arith, nat_tests)

le_none : (a : ℕ) → nat_le (a + 1) 0 ≡ false
le_none a = grind (arith, nat_tests)

le_all : (n : ℕ) → nat_le 0 n ≡ true
le_all n = grind (arith, nat_tests)

le_yes : (m n : ℕ) → m ≤ n → nat_le m n ≡ true
le_yes m n h = grind (arith, nat_tests)

le_max : (a b n : ℕ) → nat_le (max a b) n ≡ (nat_le a n && nat_le b n)
le_max a b n = grind (arith, nat_tests)

lt_of : (m n : ℕ) → nat_lt m n ≡ true → m < n
lt_of m n h = grind (arith, nat_tests)

other_kind : Unknown ≡ Limit → ⊥
other_kind e = absurd cc

-- ---- heads

int_head : (n : ℕ) (types : Types) (w : ℕ) → head_from n types (int w) ≡ Ok (int w)
int_head zero types w = refl
int_head (suc n) types w = refl

pointer_head : (n : ℕ) (types : Types) → head_from n types pointer ≡ Ok pointer
pointer_head zero types = refl
pointer_head (suc n) types = refl

array_head : (n : ℕ) (types : Types) (count : ℕ) (of : Written) → head_from n types (array count of) ≡ Ok (array count of)
array_head zero types count of = refl
array_head (suc n) types count of = refl

structure_head : (n : ℕ) (types : Types) (packed : Bool) (parts : WrittenParts) → head_from n types (structure packed parts) ≡ Ok (structure packed parts)
structure_head zero types packed parts = refl
structure_head (suc n) types packed parts = refl

ok_is : (x y : Written) (r : Result Written Fault) → r ≡ Ok x → r ≡ Ok y → x ≡ y
ok_is x y r d e = cc

-- what a chain leads to is its own head
own_head : (m n : ℕ) (types : Types) (s h : Written) → head_from m types s ≡ Ok h → head_from n types h ≡ Ok h
own_head m n types (int w) h e = subst (λ (z : Written). head_from n types z ≡ Ok z) (ok_is (int w) h (head_from m types (int w)) (int_head m types w) e) (int_head n types w)
own_head m n types pointer h e = subst (λ (z : Written). head_from n types z ≡ Ok z) (ok_is pointer h (head_from m types pointer) (pointer_head m types) e) (pointer_head n types)
own_head m n types (array count of) h e = subst (λ (z : Written). head_from n types z ≡ Ok z) (ok_is (array count of) h (head_from m types (array count of)) (array_head m types count of) e) (array_head n types count of)
own_head m n types (structure packed parts) h e =
    subst (λ (z : Written). head_from n types z ≡ Ok z) (ok_is (structure packed parts) h (head_from m types (structure packed parts)) (structure_head m types packed parts) e) (structure_head n types packed parts)
own_head zero n types (named name) h e = absurd cc
own_head (suc m) n types (named name) h e = by (shape_in types name) (λ s d. own_head m n types s h d) e
  where
    by : (r : Result Written Fault) → ((s : Written) → head_from m types s ≡ Ok h → head_from n types h ≡ Ok h) → (r >>= λ s. head_from m types s) ≡ Ok h → head_from n types h ≡ Ok h
    by (Ok s) again d = again s d
    by (Err f) again d = absurd cc

-- ---- expansion by heads

at_zero : (types : Types) (line : ℕ) (s h : Written) → head_of types s ≡ Ok h → expand zero types line s ≡ without_parts line h
at_zero types line s h is = ap (λ (r : Result Written Fault). r >>= λ z. without_parts line z) is

at_suc : (types : Types) (line : ℕ) (s h : Written) → head_of types s ≡ Ok h → (n : ℕ) → expand (suc n) types line s ≡ opened (expand n types line) line h
at_suc types line s h is n = ap (λ (r : Result Written Fault). r >>= λ z. opened (expand n types line) line z) is

same_expansion : (types : Types) (s h : Written) → head_of types s ≡ Ok h → head_of types h ≡ Ok h → (n line : ℕ) → expand n types line s ≡ expand n types line h
same_expansion types s h is own zero line = at_zero types line s h is ∙ sym (at_zero types line h h own)
same_expansion types s h is own (suc n) line = at_suc types line s h is n ∙ sym (at_suc types line h h own n)

moved : (types : Types) (s h : Written) (m : Option Measure) → ((n line : ℕ) → expand n types line s ≡ expand n types line h) → IsMeasured types h m → IsMeasured types s m
moved types s h None same k = λ n line le. same n line ∙ k n line le
moved types s h (Some m) same (f, fit, k) = (f, fit, λ n line le. same n line ∙ k n line le)

int_own : (types : Types) (w : ℕ) → head_of types (int w) ≡ Ok (int w)
unfolding head_of
int_own types w = int_head (length types + 1) types w

pointer_own : (types : Types) → head_of types pointer ≡ Ok pointer
unfolding head_of
pointer_own types = pointer_head (length types + 1) types

array_own : (types : Types) (count : ℕ) (of : Written) → head_of types (array count of) ≡ Ok (array count of)
unfolding head_of
array_own types count of = array_head (length types + 1) types count of

structure_own : (types : Types) (packed : Bool) (parts : WrittenParts) → head_of types (structure packed parts) ≡ Ok (structure packed parts)
unfolding head_of
structure_own types packed parts = structure_head (length types + 1) types packed parts

-- ---- names

name_head : (types : Types) (p : ℕ) (k : Known) (name : Tok) (h : IsKnown types p k) → entry_in types name ≡ Ok (shape_at types p) → head_of types (named name) ≡ Ok h.head
unfolding head_of
name_head types p k name h e =
    head_more (suc k.names) (length types + 1) types (named name) h.head (omega (arith, h.few)) (through k.names types name (shape_at types p) h.head e (any_line k.names types 0 name.line (shape_at types p) h.head h.leads))

head_itself : (types : Types) (p : ℕ) (k : Known) (h : IsKnown types p k) → head_of types h.head ≡ Ok h.head
unfolding head_of
head_itself types p k h = by (shape_at types p) h.leads
  where
    by : (o : Option Written) → chased k.names types 0 o ≡ Ok h.head → head_from (length types + 1) types h.head ≡ Ok h.head
    by None e = absurd cc
    by (Some s) e = own_head k.names (length types + 1) types s h.head e

name_measured : (types : Types) (p : ℕ) (k : Known) (name : Tok) → IsKnown types p k → entry_in types name ≡ Ok (shape_at types p) → IsMeasured types (named name) k.measure
name_measured types p k name h e = moved types (named name) h.head k.measure (same_expansion types (named name) h.head (name_head types p k name h e) (head_itself types p k h)) h.measured

-- the definition of a name stands at its place
first_at : (types : Types) (key : Key) → position_or_len (same_key key) (map (λ d. d.0) types) < length (map (λ d. d.0) types) → entry_of types key ≡ Some (shape_at types (position_or_len (same_key key) (map (λ d. d.0) types)))
first_at [] key lt = absurd (omega (arith, lt))
first_at (d ∷ ds) key lt = by (same_key key d.0) (first_at ds key) lt
  where
    behind : ℕ
    behind = position_or_len (same_key key) (map (λ e. e.0) ds)

    by : (b : Bool) → (behind < length (map (λ e. e.0) ds) → entry_of ds key ≡ Some (shape_at ds behind)) → cond (not b) (1 + behind) 0 < suc (length (map (λ e. e.0) ds))
        → cond b (Some d.1) (entry_of ds key) ≡ Some (shape_at (d ∷ ds) (cond (not b) (1 + behind) 0))
    by true again lt = refl
    by false again lt = let one : suc behind ≡ 1 + behind = omega arith in again (omega (arith, lt)) ∙ ap (λ n. Some (shape_at (d ∷ ds) n)) one

entry_at : (types : Types) (key : Key) (p : ℕ) → place_of types key ≡ Some p → entry_of types key ≡ Some (shape_at types p)
entry_at types key p e = by (nat_lt q (length (map (λ d. d.0) types))) refl e
  where
    q : ℕ
    q = position_or_len (same_key key) (map (λ d. d.0) types)

    by : (b : Bool) → nat_lt q (length (map (λ d. d.0) types)) ≡ b → cond b (Some q) None ≡ Some p → entry_of types key ≡ Some (shape_at types p)
    by true t d = let same : q ≡ p = cc in first_at types key (lt_of q (length (map (λ d. d.0) types)) t) ∙ ap (λ n. Some (shape_at types n)) same
    by false t d = absurd cc

-- ---- what weighing says

abbrev Says : Types → Written → Result Measure Fault → Type 0
Says types s (Ok m) = IsMeasured types s (Some m)
Says types s (Err e) = e.kind ≡ Limit → IsMeasured types s None

abbrev told_all : List Form → ℕ → ℕ → Result (List Form) Fault
told_all fs n line = cond (nat_le (deepest (forms_of fs)) n) (Ok fs) (Err (limit line))

abbrev SaysAll : Types → List Written → Result (List Measure) Fault → Type 0
SaysAll types ss (Ok ms) = (fs : List Form) × AllFit ms fs × ((n line : ℕ) → n ≤ 32 → each (expand n types line) ss ≡ told_all fs n line)
SaysAll types ss (Err e) = e.kind ≡ Limit → (n line : ℕ) → n ≤ 32 → each (expand n types line) ss ≡ Err (limit line)

name_says : (types : Types) (ks : List (Option Known)) (line : ℕ) (name : Tok) → AreKnown types ks → Says types (named name) (known_as line name.line (known_at ks (place_of types (key_of name))))
name_says types ks line name known = by_place (place_of types (key_of name)) refl
  where
    by_known : (p : ℕ) (o : Option Known) → IsKnownIf types p o → entry_in types name ≡ Ok (shape_at types p) → Says types (named name) (known_as line name.line o)
    by_known p None h e = λ k. absurd (other_kind k)
    by_known p (Some k) h e = by_measure k.measure (name_measured types p k name h e)
      where
        by_measure : (m : Option Measure) → IsMeasured types (named name) m → Says types (named name) (or_limit line m)
        by_measure None i = λ _. i
        by_measure (Some m) i = i

    by_place : (o : Option ℕ) → place_of types (key_of name) ≡ o → Says types (named name) (known_as line name.line (known_at ks o))
    by_place None e = λ k. absurd (other_kind k)
    by_place (Some p) e = by_known p (get_or ks p None) (known p) (ap (or_unknown name.line) (entry_at types (key_of name) p e))

-- ---- scalars

int_says : (types : Types) (line w : ℕ) → Says types (int w) (scalar line w)
int_says types line w = by (is_width w) refl
  where
    as_typed : (n l : ℕ) → expand n types l (int w) ≡ typing.scalar l w
    as_typed zero l = at_zero types l (int w) (int w) (int_own types w)
    as_typed (suc n) l = at_suc types l (int w) (int w) (int_own types w) n

    by : (b : Bool) → is_width w ≡ b → Says types (int w) (cond b (Ok (measure (w / 8) (w / 8) 0)) (Err (limit line)))
    by true e =
        let both = and_parts (nat_le 8 w) (nat_le w 64) e in (
          tree.int w,
          record { size = refl; align = refl; levels = refl; laid = (leb-true 8 w both.0, leb-true w 64 both.1) },
          λ n l le. as_typed n l ∙ ap (λ b. cond b (Ok (tree.int w)) (Err (limit l))) e ∙ sym (ap (λ b. cond b (Ok (tree.int w)) (Err (limit l))) (le_all n)),
        )
    by false e = λ _ n l le. as_typed n l ∙ ap (λ b. cond b (Ok (tree.int w)) (Err (limit l))) e

pointer_says : (types : Types) → Says types pointer (Ok (measure 8 8 0))
pointer_says types = (tree.pointer, record { size = refl; align = refl; levels = refl; laid = tt }, λ n l le. as_typed n l ∙ sym (ap (λ b. cond b (Ok tree.pointer) (Err (limit l))) (le_all n)))
  where
    as_typed : (n l : ℕ) → expand n types l pointer ≡ Ok tree.pointer
    as_typed zero l = at_zero types l pointer pointer (pointer_own types)
    as_typed (suc n) l = at_suc types l pointer pointer (pointer_own types) n

-- ---- one more level

abbrev past : ℕ → Result Form Fault
past line = Err (limit line)

-- what a shape with parts expands to, by its parts at one level less
record OneLevel (types : Types) (s : Written) (f : Form) (inner : ℕ) : Type 0 where
  none : (line : ℕ) → expand zero types line s ≡ Err (limit line)
  one : (n line : ℕ) → n ≤ 32 → expand (suc n) types line s ≡ cond (nat_le inner n) (typing.within line f) (Err (limit line))
  deep : nesting f ≡ inner + 1

level_says : (types : Types) (s : Written) (f : Form) (inner line : ℕ) (m : Measure) → OneLevel types s f inner → m.levels ≡ inner + 1 → layout.size f ≡ m.size → (m.size ≤ 2 ^ 31 → Fits m f) → Says types s (within line m)
level_says types s f inner line m h deep sized fits = by (nat_le m.size (2 ^ 31)) (nat_le m.levels 32) refl refl
  where
    told_zero : (l : ℕ) → told f zero l ≡ Err (limit l)
    told_zero l = ap (λ b. cond b (Ok f) (Err (limit l))) (ap (λ k. nat_le k 0) h.deep ∙ le_none inner)

    told_suc : (n l : ℕ) → told f (suc n) l ≡ cond (nat_le inner n) (Ok f) (Err (limit l))
    told_suc n l = ap (λ b. cond b (Ok f) (Err (limit l))) (ap (λ k. nat_le k (suc n)) h.deep ∙ le_step inner n)

    small : (l : ℕ) → nat_le m.size (2 ^ 31) ≡ true → typing.within l f ≡ Ok f
    small l e = ap (λ b. cond b (Ok f) (Err (limit l))) (ap (λ k. nat_le k (2 ^ 31)) sized ∙ e)

    big : (l : ℕ) → nat_le m.size (2 ^ 31) ≡ false → typing.within l f ≡ Err (limit l)
    big l e = ap (λ b. cond b (Ok f) (Err (limit l))) (ap (λ k. nat_le k (2 ^ 31)) sized ∙ e)

    same : (b : Bool) (l : ℕ) → cond b (past l) (past l) ≡ past l
    same true l = refl
    same false l = refl

    too_deep : (n : ℕ) → suc n ≤ 32 → nat_le m.levels 32 ≡ false → nat_le inner n ≡ false
    too_deep n le e = let past = leb-false m.levels 32 e in grind (arith, nat_tests, past, deep, le)

    by : (b c : Bool) → nat_le m.size (2 ^ 31) ≡ b → nat_le m.levels 32 ≡ c → Says types s (cond (b && c) (Ok m) (Err (limit line)))
    by true true e d = (f, fits (leb-true m.size (2 ^ 31) e), all)
      where
        all : (n l : ℕ) → n ≤ 32 → expand n types l s ≡ told f n l
        all zero l le = h.none l ∙ sym (told_zero l)
        all (suc n) l le = h.one n l (omega (arith, le)) ∙ ap (λ r. cond (nat_le inner n) r (Err (limit l))) (small l e) ∙ sym (told_suc n l)
    by true false e d = λ _. all
      where
        all : (n l : ℕ) → n ≤ 32 → expand n types l s ≡ Err (limit l)
        all zero l le = h.none l
        all (suc n) l le = h.one n l (omega (arith, le)) ∙ ap (λ b. cond b (typing.within l f) (Err (limit l))) (too_deep n le d)
    by false c e d = λ _. all
      where
        all : (n l : ℕ) → n ≤ 32 → expand n types l s ≡ Err (limit l)
        all zero l le = h.none l
        all (suc n) l le = h.one n l (omega (arith, le)) ∙ ap (λ r. cond (nat_le inner n) r (Err (limit l))) (big l e) ∙ same (nat_le inner n) l

-- ---- arrays

array_says : (types : Types) (line count : ℕ) (of : Written) (r : Result Measure Fault) → Says types of r → Says types (array count of) (r >>= array_of line count)
array_says types line count of (Err e) says = λ k. all k
  where
    all : e.kind ≡ Limit → (n l : ℕ) → n ≤ 32 → expand n types l (array count of) ≡ Err (limit l)
    all k zero l le = at_zero types l (array count of) (array count of) (array_own types count of)
    all k (suc n) l le =
        at_suc types l (array count of) (array count of) (array_own types count of) n ∙ ap (λ (z : Result Form Fault). z >>= λ f. typing.within l (tree.array count f)) (says k n l (omega (arith, le)))
array_says types line count of (Ok m) (f, fit, tells) =
    level_says types (array count of) (tree.array count f) (nesting f) line (measure (count * m.size) m.align (m.levels + 1))
    (record {
      none = λ l. at_zero types l (array count of) (array count of) (array_own types count of);
      one = λ n l le.
          at_suc types l (array count of) (array count of) (array_own types count of) n ∙ ap (λ (z : Result Form Fault). z >>= λ g. typing.within l (tree.array count g)) (tells n l le)
          ∙ by l (nat_le (nesting f) n);
      deep = refl;
    })
    (ap (λ k. k + 1) (sym fit.levels)) (ap (λ k. count * k) fit.size)
    (λ small. record {
      size = ap (λ k. count * k) fit.size;
      align = fit.align;
      levels = ap (λ k. k + 1) fit.levels;
      laid = (subst (λ k. count * k ≤ 2 ^ 31) (sym fit.size) small, fit.laid);
    })
  where
    by : (l : ℕ) (b : Bool) → (cond b (Ok f) (Err (limit l)) >>= λ g. typing.within l (tree.array count g)) ≡ cond b (typing.within l (tree.array count f)) (Err (limit l))
    by l true = refl
    by l false = refl

-- ---- structures

same_ends : (packed : Bool) (place : ℕ) (ms : List Measure) (fs : List Form) → AllFit ms fs → layout.ends packed place (forms_of fs) ≡ ends packed place ms
same_ends packed place [] [] h = refl
same_ends packed place [] (f ∷ fs) h = absurd h
same_ends packed place (m ∷ ms) [] h = absurd h
same_ends packed place (m ∷ ms) (f ∷ fs) h =
    ap (λ k. layout.ends packed k (forms_of fs)) (next packed) ∙ same_ends packed (begins packed place m + m.size) ms fs h.1
  where
    next : (p : Bool) → layout.begins p place f + layout.size f ≡ begins p place m + m.size
    next true = ap (λ k. place + k) h.0.size
    next false = ap (λ a. layout.rounded place a + layout.size f) h.0.align ∙ ap (λ k. layout.rounded place m.align + k) h.0.size

same_widest : (ms : List Measure) (fs : List Form) → AllFit ms fs → layout.widest (forms_of fs) ≡ widest ms
same_widest [] [] h = refl
same_widest [] (f ∷ fs) h = absurd h
same_widest (m ∷ ms) [] h = absurd h
same_widest (m ∷ ms) (f ∷ fs) h = ap (λ a. max a (layout.widest (forms_of fs))) h.0.align ∙ ap (λ a. max m.align a) (same_widest ms fs h.1)

same_deepest : (ms : List Measure) (fs : List Form) → AllFit ms fs → deepest (forms_of fs) ≡ deepest_of ms
same_deepest [] [] h = refl
same_deepest [] (f ∷ fs) h = absurd h
same_deepest (m ∷ ms) [] h = absurd h
same_deepest (m ∷ ms) (f ∷ fs) h = ap (λ a. max a (deepest (forms_of fs))) h.0.levels ∙ ap (λ a. max m.levels a) (same_deepest ms fs h.1)

all_laid : (ms : List Measure) (fs : List Form) → AllFit ms fs → AreLaidOut (forms_of fs)
all_laid [] [] h = tt
all_laid [] (f ∷ fs) h = absurd h
all_laid (m ∷ ms) [] h = absurd h
all_laid (m ∷ ms) (f ∷ fs) h = (h.0.laid, all_laid ms fs h.1)

same_size : (packed : Bool) (ms : List Measure) (fs : List Form) → AllFit ms fs → layout.size (tree.structure packed (forms_of fs)) ≡ struct_size packed ms
same_size true ms fs h = same_ends true 0 ms fs h
same_size false ms fs h = ap (λ k. layout.rounded k (layout.widest (forms_of fs))) (same_ends false 0 ms fs h) ∙ ap (λ a. layout.rounded (ends false 0 ms) a) (same_widest ms fs h)

same_align : (packed : Bool) (ms : List Measure) (fs : List Form) → AllFit ms fs → layout.align (tree.structure packed (forms_of fs)) ≡ struct_align packed ms
same_align true ms fs h = refl
same_align false ms fs h = same_widest ms fs h

structure_says : (types : Types) (line : ℕ) (packed : Bool) (parts : WrittenParts) (r : Result (List Measure) Fault) → SaysAll types (list_of parts) r → Says types (structure packed parts) (r >>= structure_of line packed)
structure_says types line packed parts (Err e) says = λ k. all k
  where
    all : e.kind ≡ Limit → (n l : ℕ) → n ≤ 32 → expand n types l (structure packed parts) ≡ Err (limit l)
    all k zero l le = at_zero types l (structure packed parts) (structure packed parts) (structure_own types packed parts)
    all k (suc n) l le =
        at_suc types l (structure packed parts) (structure packed parts) (structure_own types packed parts) n
        ∙ ap (λ (z : Result (List Form) Fault). z >>= λ fs. typing.within l (tree.structure packed (forms_of fs))) (says k n l (omega (arith, le)))
structure_says types line packed parts (Ok ms) (fs, fit, tells) =
    level_says types (structure packed parts) (tree.structure packed (forms_of fs)) (deepest (forms_of fs)) line (measure (struct_size packed ms) (struct_align packed ms) (deepest_of ms + 1))
    (record {
      none = λ l. at_zero types l (structure packed parts) (structure packed parts) (structure_own types packed parts);
      one = λ n l le.
          at_suc types l (structure packed parts) (structure packed parts) (structure_own types packed parts) n
          ∙ ap (λ (z : Result (List Form) Fault). z >>= λ gs. typing.within l (tree.structure packed (forms_of gs))) (tells n l le) ∙ by l (nat_le (deepest (forms_of fs)) n);
      deep = refl;
    })
    (ap (λ k. k + 1) (sym (same_deepest ms fs fit))) (same_size packed ms fs fit)
    (λ small. record {
      size = same_size packed ms fs fit;
      align = same_align packed ms fs fit;
      levels = ap (λ k. k + 1) (same_deepest ms fs fit);
      laid = (subst (λ k. k ≤ 2 ^ 31) (sym (same_size packed ms fs fit)) small, all_laid ms fs fit);
    })
  where
    by : (l : ℕ) (b : Bool) → (cond b (Ok fs) (Err (limit l)) >>= λ gs. typing.within l (tree.structure packed (forms_of gs))) ≡ cond b (typing.within l (tree.structure packed (forms_of fs))) (Err (limit l))
    by l true = refl
    by l false = refl

-- ---- several shapes

abbrev fails : ℕ → Result (List Form) Fault
fails line = Err (limit line)

one_more : (types : Types) (s : Written) (more : List Written) (r : Result Measure Fault) (q : Result (List Measure) Fault) → Says types s r → SaysAll types more q → SaysAll types (s ∷ more) (r >>= λ m. q >>= λ ms. Ok (m ∷ ms))
one_more types s more (Err e) q says rest = λ k n l le. ap (λ (z : Result Form Fault). z >>= λ y. each (expand n types l) more >>= λ ys. Ok (y ∷ ys)) (says k n l le)
one_more types s more (Ok m) (Err e) (f, fit, tells) rest = λ k n l le.
    ap (λ (z : Result Form Fault). z >>= λ y. each (expand n types l) more >>= λ ys. Ok (y ∷ ys)) (tells n l le)
    ∙ ap (λ (z : Result (List Form) Fault). told f n l >>= λ y. z >>= λ ys. Ok (y ∷ ys)) (rest k n l le) ∙ by l (nat_le (nesting f) n)
  where
    by : (l : ℕ) (b : Bool) → (cond b (Ok f) (Err (limit l)) >>= λ y. fails l >>= λ ys. Ok (y ∷ ys)) ≡ fails l
    by l true = refl
    by l false = refl
one_more types s more (Ok m) (Ok ms) (f, fit, tells) (fs, fits, rest) = (
  f ∷ fs,
  (fit, fits),
  λ n l le.
      ap (λ (z : Result Form Fault). z >>= λ y. each (expand n types l) more >>= λ ys. Ok (y ∷ ys)) (tells n l le)
      ∙ ap (λ (z : Result (List Form) Fault). told f n l >>= λ y. z >>= λ ys. Ok (y ∷ ys)) (rest n l le) ∙ by l (nat_le (nesting f) n) (nat_le (deepest (forms_of fs)) n)
      ∙ sym (ap (λ b. cond b (Ok (f ∷ fs)) (Err (limit l))) (le_max (nesting f) (deepest (forms_of fs)) n)),
)
  where
    by : (l : ℕ) (b c : Bool) → (cond b (Ok f) (Err (limit l)) >>= λ y. cond c (Ok fs) (Err (limit l)) >>= λ ys. Ok (y ∷ ys)) ≡ cond (b && c) (Ok (f ∷ fs)) (fails l)
    by l true true = refl
    by l true false = refl
    by l false c = refl

module _ (types : Types) (ks : List (Option Known)) (known : AreKnown types ks) (line : ℕ) where
  mutual
    says : (s : Written) → Says types s (weigh types ks line s)
    says (int w) = int_says types line w
    says pointer = pointer_says types
    says (array count of) = array_says types line count of (weigh types ks line of) (says of)
    says (structure packed parts) = structure_says types line packed parts (weigh_all types ks line parts) (says_all parts)
    says (named name) = name_says types ks line name known

    says_all : (parts : WrittenParts) → SaysAll types (list_of parts) (weigh_all types ks line parts)
    says_all no_parts = ([], tt, λ n l le. sym (ap (λ b. cond b (Ok []) (Err (limit l))) (le_all n)))
    says_all (part s more) = one_more types s (list_of more) (weigh types ks line s) (weigh_all types ks line more) (says s) (says_all more)

  pub measured_by : (s : Written) (m : Measure) → weigh types ks line s ≡ Ok m → IsMeasured types s (Some m)
  measured_by s m e = subst (Says types s) e (says s)

  pub limited_by : (s : Written) (f : Fault) → weigh types ks line s ≡ Err f → f.kind ≡ Limit → IsMeasured types s None
  limited_by s f e k = subst (Says types s) e (says s) k

-- ---- definitions

pub own_known : (types : Types) (p : ℕ) (s : Written) (k : Known) → shape_at types p ≡ Some s → ((n : ℕ) (ts : Types) → head_from n ts s ≡ Ok s) → k.names ≡ 0 → IsMeasured types s k.measure → IsKnown types p k
own_known types p s k at own names m = record {
  head = s;
  leads = ap (λ o. chased k.names types 0 o) at ∙ own k.names types;
  few = omega (arith, names);
  measured = m;
}

pub name_behind : (types : Types) (p q : ℕ) (name : Tok) (o : Option Known) → IsKnownIf types q o → entry_in types name ≡ Ok (shape_at types q) → shape_at types p ≡ Some (named name) → IsKnownIf types p (chained (length types) o)
name_behind types p q name None h e at = tt
name_behind types p q name (Some k) h e at = by (nat_lt k.names (length types)) refl
  where
    by : (b : Bool) → nat_lt k.names (length types) ≡ b → IsKnownIf types p (cond b (Some (record { names = k.names + 1; measure = k.measure })) None)
    by true t = record {
      head = h.head;
      leads =
          let one : suc k.names ≡ k.names + 1 = omega arith in
          ap (λ z. chased (k.names + 1) types 0 z) at
          ∙ subst (λ (n : ℕ). head_from n types (named name) ≡ Ok h.head) one (through k.names types name (shape_at types q) h.head e (any_line k.names types 0 name.line (shape_at types q) h.head h.leads));
      few = let lt = lt_of k.names (length types) t in omega (arith, lt);
      measured = h.measured;
    }
    by false t = tt

pub known_set : (types : Types) (ks : List (Option Known)) (p : ℕ) (o : Option Known) → AreKnown types ks → p < length ks → IsKnownIf types p o → AreKnown types (set ks p o)
known_set types ks p o h lt i q =
    elim (cases_eq q p) [
      | inl e ↦ subst (λ (z : Option Known). IsKnownIf types q z) (sym (ap (λ k. get_or (set ks p o) k None) e ∙ get_or-set_same ks p o None lt)) (subst (λ k. IsKnownIf types k o) (sym e) i)
      | inr ne ↦ subst (λ (z : Option Known). IsKnownIf types q z) (sym (get_or-set_other ks p q o None ne)) (h q)
    ]

pub small_set : (ks : List (Option Known)) (p : ℕ) (o : Option Known) → AreKnownSmall ks → p < length ks → IsKnownSmall o → AreKnownSmall (set ks p o)
small_set ks p o h lt i q =
    elim (cases_eq q p) [
      | inl e ↦ subst IsKnownSmall (sym (ap (λ k. get_or (set ks p o) k None) e ∙ get_or-set_same ks p o None lt)) i
      | inr ne ↦ subst IsKnownSmall (sym (get_or-set_other ks p q o None ne)) (h q)
    ]

abbrev nothing : Option Known
nothing = None

none_at : (n p : ℕ) → get_or (replicate n nothing) p nothing ≡ nothing
none_at zero p = refl
none_at (suc n) zero = refl
none_at (suc n) (suc p) = none_at n p

pub none_known : (types : Types) (n : ℕ) → AreKnown types (replicate n None)
none_known types n p = subst (λ (z : Option Known). IsKnownIf types p z) (sym (none_at n p)) tt

pub none_small : (n : ℕ) → AreKnownSmall (replicate n None)
none_small n p = subst IsKnownSmall (sym (none_at n p)) tt

-- ---- within the limits

pub at_some : (P : Option Measure → Type 0) (o : Option (Option Measure)) (x : Option Measure) (m : Measure) → o ≡ Some x → x ≡ Some m → IfSome o P → P (Some m)
at_some P None x m e d h = absurd cc
at_some P (Some y) x m e d h = let same : y ≡ Some m = cc in subst P same h

pub fits : (types : Types) (typed : Typed) (m : Measure) → IsMeasured types typed.shape (Some m) → IsSmall m → passes (expanded types typed) ≡ Ok tt
unfolding expanded
fits types typed m (f, fit, tells) small = ap passes (tells 32 typed.line (omega arith) ∙ ap (λ b. cond b (Ok f) (Err (limit typed.line))) (ap (λ k. nat_le k 32) fit.levels ∙ le_yes m.levels 32 small.levels))

pub fits_not : (types : Types) (typed : Typed) → IsMeasured types typed.shape None → passes (expanded types typed) ≡ Err (limit typed.line)
unfolding expanded
fits_not types typed tells = ap passes (tells 32 typed.line (omega arith))

many : (types : Types) (typed : Typed) (count : ℕ) → nat_eq count 1 ≡ false → allocated types typed count ≡ typing.array_of types typed count
many types typed count e = ap (λ b. cond b (expanded types typed) (typing.array_of types typed count)) e

pub many_fit : (types : Types) (typed : Typed) (count : ℕ) (m : Measure) → nat_eq count 1 ≡ false → IsMeasured types typed.shape (Some m) → passes (allocated types typed count) ≡ (array_of typed.line count m >>= λ _. Ok tt)
unfolding typing.array_of
many_fit types typed count m e (f, fit, tells) =
    ap passes (many types typed count e) ∙ ap (λ (z : Result Form Fault). passes (z >>= λ g. typing.within typed.line (tree.array count g))) (tells 31 typed.line (omega arith))
    ∙ by (nat_le (nesting f) 31)
    ∙ sym (ap (λ b. passes_if b) (ap (λ k. nat_le (count * k) (2 ^ 31) && nat_le (m.levels + 1) 32) (sym fit.size) ∙ ap (λ k. nat_le (count * layout.size f) (2 ^ 31) && k) (ap (λ k. nat_le (k + 1) 32) (sym fit.levels) ∙ le_step (nesting f) 31)))
  where
    passes_if : Bool → Passes
    passes_if b = cond b (Ok (measure (count * m.size) m.align (m.levels + 1))) (Err (limit typed.line)) >>= λ _. Ok tt

    by_size : (c : Bool) → passes (cond c (Ok (tree.array count f)) (Err (limit typed.line))) ≡ passes_if (c && true)
    by_size true = refl
    by_size false = refl

    by_depth : (c : Bool) → Err (limit typed.line) ≡ passes_if (c && false)
    by_depth true = refl
    by_depth false = refl

    by : (b : Bool) → passes (cond b (Ok f) (Err (limit typed.line)) >>= λ g. typing.within typed.line (tree.array count g)) ≡ passes_if (nat_le (count * layout.size f) (2 ^ 31) && b)
    by true = by_size (nat_le (count * layout.size f) (2 ^ 31))
    by false = by_depth (nat_le (count * layout.size f) (2 ^ 31))

pub many_fit_not : (types : Types) (typed : Typed) (count : ℕ) → nat_eq count 1 ≡ false → IsMeasured types typed.shape None → passes (allocated types typed count) ≡ Err (limit typed.line)
unfolding typing.array_of
many_fit_not types typed count e tells =
    ap passes (many types typed count e ∙ ap (λ (z : Result Form Fault). z >>= λ g. typing.within typed.line (tree.array count g)) (tells 31 typed.line (omega arith)))
