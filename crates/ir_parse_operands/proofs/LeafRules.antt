-- The readers of scalars, type names and counts read them.
use Rattle.std.proofs.Common.{◌≡◌, ℕ, Bool, true, false, cond, ◌&&◌, ◌||◌, not, nat_eq, Option, Some, None, List, [], ◌∷◌, Result, Ok, Err, refl, sym, ap, subst, ◌∙◌, arith, ◌⊎◌, inl, inr}
use Rattle.std.specs.Prelude.{codes, nat_lt}
use Rattle.ir_lex.specs.Bytes.{has}
use Rattle.ir_lex.specs.declared.token_kind.TokenKind.TheVariants as kinds
use Rattle.ir_lex.specs.declared.token.TokenForm.TheVariants as forms
use Rattle.ir_lex.specs.TokenKinds.{number, kind_of, word_kind, listed_kind, words_1}
use Rattle.ir_lex.specs.Lexing.{is_bad}
use Rattle.ir_lex.specs.Quotes.{is_zero_name}
use Rattle.ir_lex.specs.Rows.{best_fit, rest_fit, label_len, number_len, word_len, name_len, meta_len, dots_len, other_len, string_len}
use Rattle.ir_lex.specs.Tok.{Tok}
use Rattle.ir_parse_parts.specs.Alphabet.{among, contains, is_number, AllReal}
use Rattle.ir_parse_parts.specs.declared.fault.TokenFault.{TokenFault}
use Rattle.ir_parse_parts.specs.declared.fault.TokenFault.TheVariants.{Syntax, Profile, Number, Limit}
use Rattle.ir_parse_parts.specs.Lawful.{Lawful, SameRefusal}
use Rattle.ir_parse_parts.specs.Readers.{Reader, fault_at, pick, token_at, token_means}
use Rattle.ir_parse_parts.specs.Rules.{Rule, IsWithin, in_range, is_class, is_valued}
use Rattle.ir_parse_parts.proofs.Composed.{Begun, token_lawful, widened}
use Rattle.ir_parse_parts.proofs.Rules as rules
use Rattle.ir_parse_parts.proofs.Rules.{apart_from, within_of}
use Rattle.ir_parse_parts.specs.Classes.{tokens, IsReal, refusal, NUMERALS, the, the_at}
use Rattle.ir_parse_operands.specs.declared.extents.Align.{Align}
use Rattle.ir_parse_operands.specs.declared.extents.Align.TheVariants.{One, Two, Four, Eight}
use Rattle.ir_parse_operands.specs.declared.extents.Room.{Room}
use Rattle.ir_parse_parts.specs.declared.shape.Typed.{Typed}
use Rattle.ir_parse_operands.specs.Extents.{room_for, whole}
use Rattle.ir_parse_parts.specs.Literals.{literal}
use Rattle.ir_parse_parts.specs.Operands as operands
use Rattle.ir_parse_parts.specs.Operands.{LOCAL, SCALAR, memory_refusal}
use Rattle.ir_parse_operands.specs.ShapeForms.{typed, scalar_align, scalar_typed, has_room, too_large, type_name, is_leaf, leaf_means, leaf, NUMBER, counted, count_of, count, angle_refusal, brace_behind_angle}
use Rattle.ir_parse_operands.specs.ShapeFormsAt.{leaf_at, count_at, brace_behind_angle_at}
use Rattle.ir_parse_parts.specs.Shapes.{named}
use Rattle.ir_parse_operands.proofs.Barred.{barred_here}
use Rattle.ir_parse_parts.proofs.OperandRules.{memory_not_number, memory_not_limit}
use Rattle.ir_parse_parts.proofs.Singles.{sample, mark, word, not_number, not_limit, number_real, open_brace_real, the_rule}
use Rattle.ir_parse_parts.proofs.Words.{local_real}

-- ---- type names, and scalars that have room

abbrev zero_local : Tok
zero_local = sample forms.Local kinds.Local (codes "%0")

abbrev zero_typed : Typed
zero_typed = typed (named zero_local) 1

zero_named : type_name zero_local ≡ Some zero_typed
unfolding operands.named
zero_named = refl

abbrev refuse : TokenFault → Result Typed TokenFault
refuse k = Err k

err_is : (k l : TokenFault) → refuse k ≡ refuse l → k ≡ l
err_is k l e = cc

zero_is_leaf : (room : Room) → is_leaf room zero_local ≡ Ok zero_typed
unfolding is_leaf is_valued
zero_is_leaf room = ap in_range zero_named

only : (n m : ℕ) → nat_eq n m || false ≡ true → n ≡ m
only n m h = by_value (nat_eq n m) refl h
  where
    equal : (n m : ℕ) → nat_eq n m ≡ true → n ≡ m
    equal n m e = grind arith

    by_value : (b : Bool) → nat_eq n m ≡ b → b || false ≡ true → n ≡ m
    by_value true e p = equal n m e
    by_value false e p = absurd cc

abbrev named_means : Bool → Option Typed → TokenFault → Result Typed TokenFault
named_means b o k = cond b (in_range o) (Err k)

abbrev leaf_of : Bool → Bool → Typed → Option Typed → TokenFault → Result Typed TokenFault
leaf_of scalar local x o k = cond scalar (Ok x) (named_means local o k)

-- what is out of range is named
is_named : (scalar local : Bool) (x : Typed) (o : Option Typed) (k : TokenFault) → (k ≡ Number → ⊥) → leaf_of scalar local x o k ≡ refuse Number → local ≡ true
is_named true local x o k other e = absurd cc
is_named false true x o k other e = refl
is_named false false x o k other e = absurd (other (err_is k Number e))

-- no limit is passed
within_limits : (scalar local : Bool) (x : Typed) (o : Option Typed) (k : TokenFault) → (k ≡ Limit → ⊥) → leaf_of scalar local x o k ≡ refuse Limit → ⊥
within_limits true local x o k other e = cc
within_limits false true x None k other e = cc
within_limits false true x (Some y) k other e = cc
within_limits false false x o k other e = other (err_is k Limit e)

leaf_range : (room : Room) (t : Tok) → is_leaf room t ≡ refuse Number → (is_number tokens t ≡ true) × (u : Tok) × (b : Typed) × (tokens.class u ≡ tokens.class t) × (is_leaf room u ≡ Ok b) × IsReal u
unfolding is_leaf is_valued
leaf_range room t e = let h : among tokens LOCAL t ≡ true = is_named (among tokens SCALAR t && has_room room t) (among tokens LOCAL t) (scalar_typed t) (type_name t) (memory_refusal (number t.kind)) (memory_not_number (number t.kind)) e in let c : number t.kind ≡ number kinds.Local = only (number t.kind) (number kinds.Local) h in (ap (contains NUMERALS) c, zero_local, zero_typed, sym c, zero_is_leaf room, local_real)

leaf_never : (room : Room) (t : Tok) → is_leaf room t ≡ refuse Limit → ⊥
unfolding is_leaf is_valued
leaf_never room t e = within_limits (among tokens SCALAR t && has_room room t) (among tokens LOCAL t) (scalar_typed t) (type_name t) (memory_refusal (number t.kind)) (memory_not_limit (number t.kind)) e

is_false : (b : Bool) → (b ≡ true → ⊥) → b ≡ false
is_false true never = absurd (never refl)
is_false false never = refl

-- what writes a number is no scalar
not_scalar : (t : Tok) → is_number tokens t ≡ true → among tokens SCALAR t ≡ false
not_scalar t n = is_false (among tokens SCALAR t) (λ p. apart_from NUMERALS SCALAR refl (number t.kind) n p)

leaf_alike : (room : Room) (t u : Tok) → is_number tokens t ≡ true → tokens.class u ≡ tokens.class t → SameRefusal (is_leaf room t) (is_leaf room u)
unfolding is_leaf is_valued
leaf_alike room t u n e = by_scalar (among tokens SCALAR t) (among tokens SCALAR u) (not_scalar t n) (not_scalar u (ap (contains NUMERALS) e ∙ n)) (among tokens LOCAL t) (among tokens LOCAL u) (ap (contains LOCAL) (sym e)) (type_name t) (type_name u) (memory_refusal (number t.kind)) (memory_refusal (number u.kind)) (ap memory_refusal (sym e))
  where
    alike_refused : (k l : TokenFault) → k ≡ l → SameRefusal {A = Typed} (Err k) (Err l)
    alike_refused Number l e = tt
    alike_refused Syntax l e = (l, refl)
    alike_refused Profile l e = (l, refl)
    alike_refused Limit l e = tt

    by_name : (b c : Bool) → b ≡ c → (o p : Option Typed) (k l : TokenFault) → k ≡ l → SameRefusal (named_means b o k) (named_means c p l)
    by_name true c d None p k l h = tt
    by_name true c d (Some x) p k l h = tt
    by_name false true d o p k l h = absurd cc
    by_name false false d o p k l h = alike_refused k l h

    by_scalar : (b c : Bool) → b ≡ false → c ≡ false → (b' c' : Bool) → b' ≡ c' → (o p : Option Typed) (k l : TokenFault) → k ≡ l → SameRefusal (cond (b && has_room room t) (Ok (scalar_typed t)) (named_means b' o k)) (cond (c && has_room room u) (Ok (scalar_typed u)) (named_means c' p l))
    by_scalar true c d d' b' c' h o p k l i = absurd cc
    by_scalar false true d d' b' c' h o p k l i = absurd cc
    by_scalar false false d d' b' c' h o p k l i = by_name b' c' h o p k l i

abbrev pub LEAF : List ℕ
LEAF = number kinds.Local ∷ SCALAR

or_left : (a b : Bool) → a ≡ true → a || b ≡ true
or_left true b e = refl
or_left false b e = absurd cc

or_right : (a b : Bool) → b ≡ true → a || b ≡ true
or_right true b e = refl
or_right false b e = e

leaf_begins : (room : Room) (t : Tok) (x : Typed) → is_leaf room t ≡ Ok x → among tokens LEAF t ≡ true
unfolding is_leaf is_valued
leaf_begins room t x e = by_scalar (among tokens SCALAR t) (has_room room t) refl e
  where
    by_name : (b : Bool) → nat_eq (number t.kind) (number kinds.Local) || false ≡ b → named_means b (type_name t) (memory_refusal (number t.kind)) ≡ Ok x → among tokens LEAF t ≡ true
    by_name true h d = or_left (nat_eq (number t.kind) (number kinds.Local)) (among tokens SCALAR t) (ap (λ (n : ℕ). nat_eq n (number kinds.Local)) (only (number t.kind) (number kinds.Local) h))
    by_name false h d = absurd cc

    by_scalar : (b c : Bool) → among tokens SCALAR t ≡ b → cond (b && c) (Ok (scalar_typed t)) (named_means (among tokens LOCAL t) (type_name t) (memory_refusal (number t.kind))) ≡ Ok x → among tokens LEAF t ≡ true
    by_scalar true c h d = or_right (nat_eq (number t.kind) (number kinds.Local)) (among tokens SCALAR t) h
    by_scalar false c h d = by_name (among tokens LOCAL t) refl d

-- a scalar has room in 2^31 bytes
ample : (t : Tok) → has_room whole t ≡ true
ample t = by_align (scalar_align t)
  where
    by_align : (a : Align) → nat_lt 1 (room_for whole a) ≡ true
    by_align One = refl
    by_align Two = refl
    by_align Four = refl
    by_align Eight = refl

scalar_spelled : (t : Tok) → among tokens SCALAR t ≡ true → is_leaf whole t ≡ Ok (scalar_typed t)
unfolding is_leaf
scalar_spelled t h = rw (h, ample t) refl

-- no scalar is a type name
not_both : (t : Tok) (x : Typed) → among tokens SCALAR t ≡ true → is_valued tokens memory_refusal LOCAL type_name t ≡ Ok x → ⊥
unfolding is_valued
not_both t x h e = by_name (among tokens LOCAL t) refl e
  where
    by_name : (b : Bool) → among tokens LOCAL t ≡ b → named_means b (type_name t) (memory_refusal (number t.kind)) ≡ Ok x → ⊥
    by_name true i d = apart_from LOCAL SCALAR refl (number t.kind) i h
    by_name false i d = cc

leaf_whole : (room : Room) (t : Tok) (x : Typed) → is_leaf room t ≡ Ok x → is_leaf whole t ≡ Ok x
unfolding is_leaf
leaf_whole room t x e = by_test (among tokens SCALAR t) (has_room room t) refl e
  where
    by_test : (b c : Bool) → among tokens SCALAR t ≡ b → cond (b && c) (Ok (scalar_typed t)) (is_valued tokens memory_refusal LOCAL type_name t) ≡ Ok x → cond (among tokens SCALAR t && has_room whole t) (Ok (scalar_typed t)) (is_valued tokens memory_refusal LOCAL type_name t) ≡ Ok x
    by_test true true h d = rw (h, ample t) d
    by_test true false h d = absurd (not_both t x h d)
    by_test false c h d = rw h d

too_large_not : (room : Room) (t : Tok) (x : Typed) → is_leaf room t ≡ Ok x → too_large room t ≡ false
unfolding is_leaf
too_large_not room t x e = by_test (among tokens SCALAR t) (has_room room t) refl e
  where
    by_test : (b c : Bool) → among tokens SCALAR t ≡ b → cond (b && c) (Ok (scalar_typed t)) (is_valued tokens memory_refusal LOCAL type_name t) ≡ Ok x → b && not c ≡ false
    by_test true true h d = refl
    by_test true false h d = absurd (not_both t x h d)
    by_test false c h d = refl

token_whole : (room : Room) (ts : List Tok) (x : Typed) → leaf room ts x → leaf whole ts x
token_whole room [] x s = absurd s
token_whole room (t ∷ []) x s = leaf_whole room t x s
token_whole room (t ∷ u ∷ ts) x s = absurd s

fitting_lawful : (room : Room) → Lawful tokens (leaf room) (leaf room) (token_at (is_leaf room)) (among tokens LEAF) (λ _. false) false
fitting_lawful room = token_lawful tokens (is_leaf room) (among tokens LEAF) (record { range = leaf_range room; alike = leaf_alike room; never = leaf_never room }) (leaf_begins room) zero_local zero_typed (zero_is_leaf room) local_real

-- one that isn't too large is one
leaf_here : (room : Room) (t : Tok) (x : Typed) → is_leaf whole t ≡ Ok x → too_large room t ≡ false → is_leaf room t ≡ Ok x
unfolding is_leaf
leaf_here room t x e n = by_test (among tokens SCALAR t) (has_room room t) (has_room whole t) (ample t) e n
  where
    by_test : (b c w : Bool) → w ≡ true → cond (b && w) (Ok (scalar_typed t)) (is_valued tokens memory_refusal LOCAL type_name t) ≡ Ok x → b && not c ≡ false → cond (b && c) (Ok (scalar_typed t)) (is_valued tokens memory_refusal LOCAL type_name t) ≡ Ok x
    by_test true true true h d n = d
    by_test true true false h d n = absurd cc
    by_test true false w h d n = absurd cc
    by_test false c w h d n = d

leaf_or_large : (room : Room) (ts : List Tok) (x : Typed) → leaf whole ts x → leaf room ts x ⊎ Begun (too_large room) ts
leaf_or_large room [] x s = absurd s
leaf_or_large room (t ∷ []) x s = by_test (too_large room t) refl
  where
    by_test : (b : Bool) → too_large room t ≡ b → leaf room (t ∷ []) x ⊎ (too_large room t ≡ true)
    by_test true e = inr e
    by_test false e = inl (leaf_here room t x s e)
leaf_or_large room (t ∷ u ∷ ts) x s = absurd s

or_parts : (a b : Bool) → a || b ≡ true → (a ≡ true) ⊎ (b ≡ true)
or_parts true b h = inl refl
or_parts false b h = inr h

and_parts : (a b : Bool) → a && b ≡ true → a ≡ true
and_parts true b h = refl
and_parts false b h = absurd cc

barred_rule : (room : Room) → Rule tokens (leaf room) (leaf whole) (pick (too_large room) (fault_at Limit) (token_at (is_leaf room))) LEAF [] false
barred_rule room = record {
  law = widened tokens (among tokens LEAF) (λ _. false)
      (barred_here tokens (leaf room) (leaf room) (leaf whole) (token_at (is_leaf room)) (too_large room) (among tokens LEAF) (λ _. false) (fitting_lawful room) (token_whole room) (leaf_or_large room) (λ t u n m. inr (λ h. absurd (apart_from NUMERALS SCALAR refl (number t.kind) n (and_parts (among tokens SCALAR t) (not (has_room room t)) h)))) without opens)
      (λ t e. begins_leaf t e) (λ t e. e);
}
  where
    begins_leaf : (t : Tok) → among tokens LEAF t || too_large room t ≡ true → among tokens LEAF t ≡ true
    begins_leaf t e = elim (or_parts (among tokens LEAF t) (too_large room t) e) [ inl p ↦ p | inr q ↦ within_of SCALAR LEAF refl (number t.kind) (and_parts (among tokens SCALAR t) (not (has_room room t)) q) ]

    without : (t : Tok) (ts : List Tok) (x : Typed) → leaf room (t ∷ ts) x → too_large room t ≡ false
    without t [] x s = too_large_not room t x s
    without t (u ∷ ts) x s = absurd s

    opens : (t : Tok) → too_large room t ≡ true → (more : List Tok) × (x : Typed) × leaf whole (t ∷ more) x × AllReal tokens more
    opens t h = ([], scalar_typed t, scalar_spelled t (and_parts (among tokens SCALAR t) (not (has_room room t)) h), tt)

barred_is : (room : Room) (ts : List Tok) → pick (too_large room) (fault_at Limit) (token_at (is_leaf room)) ts ≡ leaf_at room ts
unfolding leaf_means
barred_is room [] = refl
barred_is room (t ∷ ts) = by_test (too_large room t)
  where
    by_test : (b : Bool) → cond b (fault_at Limit (t ∷ ts)) (token_means t ts (is_leaf room t)) ≡ token_means t ts (cond b (Err Limit) (is_leaf room t))
    by_test true = refl
    by_test false = refl

pub leaf_rule : (room : Room) → Rule tokens (leaf room) (leaf whole) (leaf_at room) LEAF [] false
leaf_rule room = subst (λ (f : Reader Tok Typed). Rule tokens (leaf room) (leaf whole) f LEAF [] false) (λ i ts. barred_is room ts i) (barred_rule room)

-- ---- counts

abbrev one_number : Tok
one_number = sample forms.Number kinds.Number (codes "1")

counts_one : count_of 64 one_number ≡ Some 1
unfolding counted literal
counts_one = refl

pub count_rule : Rule tokens count count count_at NUMBER [] false
count_rule = rules.valued_rule tokens refusal not_number not_limit NUMBER (count_of 64) within one_number 1 refl counts_one number_real
  where
    within : (t : Tok) → among tokens NUMBER t ≡ true → count_of 64 t ≡ None → IsWithin tokens NUMBER (count_of 64) t
    within t p q =
        let e : number t.kind ≡ number kinds.Number = only (number t.kind) (number kinds.Number) p in
        record { writes = ap (contains NUMERALS) e; other = one_number; means = 1; alike = sym e; has = counts_one; real = number_real }

-- ---- marks and words

times_real : IsReal (word kinds.Times (codes "x"))
unfolding best_fit rest_fit label_len number_len word_len name_len meta_len dots_len other_len string_len has is_bad is_zero_name kind_of word_kind listed_kind words_1
times_real = record { behind = []; some = refl; fits = refl; good = refl; class = refl }

pub times_rule : Rule tokens (the kinds.Times) (the kinds.Times) (the_at kinds.Times) (number kinds.Times ∷ []) [] false
unfolding is_class
times_rule = the_rule kinds.Times (word kinds.Times (codes "x")) refl times_real

angle_not_number : (n : ℕ) → angle_refusal n ≡ Number → ⊥
angle_not_number n e = by_test (nat_eq n (number kinds.Number)) e
  where
    by_test : (b : Bool) → cond b Profile (refusal n) ≡ Number → ⊥
    by_test true e = cc
    by_test false e = not_number n e

angle_not_limit : (n : ℕ) → angle_refusal n ≡ Limit → ⊥
angle_not_limit n e = by_test (nat_eq n (number kinds.Number)) e
  where
    by_test : (b : Bool) → cond b Profile (refusal n) ≡ Limit → ⊥
    by_test true e = cc
    by_test false e = not_limit n e

pub brace_behind_angle_rule : Rule tokens brace_behind_angle brace_behind_angle brace_behind_angle_at (number kinds.OpenBrace ∷ []) [] false
unfolding is_class
brace_behind_angle_rule = rules.class_rule tokens angle_refusal angle_not_number angle_not_limit (number kinds.OpenBrace) (mark kinds.OpenBrace (codes "{")) refl open_brace_real
