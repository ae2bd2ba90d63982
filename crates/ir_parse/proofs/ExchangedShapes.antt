-- The readers of shapes tell a token that is left out in some places where a type that memory holds goes on.
use Rattle.std.proofs.Common.{length, arith, ◌≡◌, ℕ, zero, suc, Bool, true, false, cond, nat_eq, nat_lt, Option, Some, None, ◌&&◌, ◌||◌, not, List, [], ◌∷◌, ◌++◌, Result, Ok, Err, refl, sym, ap, subst, ◌∙◌}
use Rattle.std.proofs.lemmas.List.{append-nil}
use Rattle.std.specs.Prelude.{codes}
use Rattle.ir_lex.specs.TokenKinds.{number}
use Rattle.ir_lex.specs.Tok.{Tok}
use Rattle.ir_lex.specs.declared.token_kind.TokenKind.TheVariants as kinds
use Rattle.ir_parse_parts.specs.Alphabet.{among}
use Rattle.ir_parse_parts.specs.Chained.{Chain, chain_at}
use Rattle.ir_parse_parts.proofs.Composed.{cons_is}
use Rattle.ir_parse_parts.specs.Alphabet.{AllReal}
use Rattle.ir_parse_parts.specs.Forms as form
use Rattle.ir_parse_parts.specs.Forms.{Form}
use Rattle.ir_parse_parts.specs.Lawful.{IsBound, ends}
use Rattle.ir_parse_parts.specs.Readers.{Reader, fault_at, follow, ◌>>=◌, token_means}
use Rattle.ir_parse_parts.specs.Rules.{in_range, is_class, is_valued}
use Rattle.ir_parse_parts.specs.declared.fault.TokenFault.TheVariants.{Number, Limit, Profile}
use Rattle.ir_parse_parts.specs.declared.fault.Fault.{Fault}
use Rattle.ir_parse_parts.specs.declared.fault.TokenFault.{TokenFault}
use Rattle.ir_lex.specs.declared.token_kind.TokenKind.{TokenKind}
use Rattle.ir_parse_parts.specs.Ahead.{BRACKETS}
use Rattle.ir_parse_parts.specs.Classes.{tokens, IsReal, refusal, the, the_at}
use Rattle.ir_parse_operands.specs.Extents.{extent_of, grown, left, no_bytes, room_for, shared, whole}
use Rattle.ir_parse_parts.specs.MetadataAt.{COMMA}
use Rattle.ir_parse_parts.specs.Operands.{SCALAR, memory_refusal}
use Rattle.ir_parse_operands.specs.ShapeForms.{NUMBER, OPEN_ANGLE, OPEN_BRACE, OPEN_BRACKET, angle_refusal, anywhere, any_shape, array_of, brace_behind_angle, count, count_of, elements, further, has_room, is_leaf, leaf, leaf_means, line_of, members, more_members, packed_behind, packed_of, scalar_align, scalar_typed, shape_over, structure_of, type_name}
use Rattle.ir_parse_operands.specs.ShapeFormsAt.{CLOSE_BRACE, leaf_at, innermost_at, count_at, elements_at, array_at, further_at, begins, more_members_at, members_at, structure_at, brace_behind_angle_at, packed_behind_at, packed_at, shape_over_at, shape_at, memory_shape_at}
use Rattle.ir_parse_parts.specs.Shapes.{Written}
use Rattle.ir_parse_operands.specs.declared.extents.Align.TheVariants.{One, Two, Four, Eight}
use Rattle.ir_parse_operands.specs.declared.extents.Align.{Align}
use Rattle.ir_parse_operands.specs.declared.extents.Extent.{Extent}
use Rattle.ir_parse_operands.specs.declared.extents.Room.{Room}
use Rattle.ir_parse_parts.specs.declared.shape.Typed.{Typed}
use Rattle.ir_parse_operands.proofs.LeafRules.{LEAF, brace_behind_angle_rule, count_rule, leaf_rule, times_rule}
use Rattle.ir_parse_operands.proofs.ShapeRules.{nested}
use Rattle.ir_parse_parts.proofs.Singles.{mark, open_angle_real, open_brace_real, open_bracket_real, word}
use Rattle.ir_parse_parts.proofs.Words.{int_32_real}
use Rattle.ir_parse.specs.Refusals.{MEMORY}
use Rattle.ir_parse.proofs.Exchanged.{only_number, Exchanges, Goes, IsTold, OutcomeAt, Stuck, Swaps, alt, barred, differ, err_ends, nothing, nowhere, recast, same_at, seq, seq_by, single, token_begins}
use Rattle.ir_parse.proofs.ExchangedChains.{chain}
use Rattle.ir_parse.proofs.ExchangedTokens.{angle_says, class_outside, loose_one, of_token, one_sample, plain_class, plain_valued, refuses_angle, says_shaped}
use Rattle.ir_parse.proofs.ExchangedWords.{close_angle_exchanged, close_brace_exchanged, close_bracket_exchanged, comma_exchanged}

-- ---- scalars and type names

abbrev refuse : TokenFault → Result Typed TokenFault
refuse k = Err k

err_is : (k l : TokenFault) → refuse k ≡ refuse l → k ≡ l
err_is k l e = cc

-- a scalar has room in 2^31 bytes
ample : (t : Tok) → has_room whole t ≡ true
ample t = by_align (scalar_align t)
  where
    by_align : (a : Align) → nat_lt 1 (room_for whole a) ≡ true
    by_align One = refl
    by_align Two = refl
    by_align Four = refl
    by_align Eight = refl

scalar_spelled : (t : Tok) → among tokens SCALAR t ≡ true → is_leaf whole t ≡ Ok (scalar_typed t)
unfolding is_leaf
scalar_spelled t h = rw (h, ample t) refl

scalar_goes : (t : Tok) → among tokens SCALAR t ≡ true → IsReal t → Goes (leaf whole) [] t
scalar_goes t h r = ([], scalar_typed t, scalar_spelled t h, (r, tt))

left_false : (a b : Bool) → a || b ≡ false → (a ≡ false) × (b ≡ false)
left_false true b h = absurd cc
left_false false b h = (refl, h)

pub leaf_outside : (room : Room) (t : Tok) → among tokens LEAF t ≡ false → leaf_means room t ≡ Err (memory_refusal (number t.kind))
unfolding leaf_means is_leaf is_valued
leaf_outside room t e = let h = left_false (nat_eq (number t.kind) (number kinds.Local)) (among tokens SCALAR t) e in rw (h.0, h.1) refl

leaf_inside : (room : Room) (t : Tok) → among tokens LEAF t ≡ true → (k : TokenFault) → leaf_means room t ≡ Err k → IsBound k
unfolding leaf_means is_leaf is_valued
leaf_inside room t p k d = by_tests (nat_eq (number t.kind) (number kinds.Local)) (among tokens SCALAR t) (has_room room t) (type_name t) p d
  where
    by_tests : (l s r : Bool) (o : Option Typed) → l || s ≡ true → cond (s && not r) (refuse Limit) (cond (s && r) (Ok (scalar_typed t)) (cond (l || false) (in_range o) (refuse (memory_refusal (number t.kind))))) ≡ refuse k → IsBound k
    by_tests l true false o p d = subst IsBound (err_is Limit k d) tt
    by_tests l true true o p d = absurd cc
    by_tests true false r None p d = subst IsBound (err_is Number k d) tt
    by_tests true false r (Some x) p d = absurd cc
    by_tests false false r o p d = absurd cc

memory_is_scalar : (v : Tok) → among tokens MEMORY v ≡ true → among tokens SCALAR v ≡ true
memory_is_scalar v i = by_test (nat_eq (number v.kind) (number kinds.MemoryInteger)) (nat_eq (number v.kind) (number kinds.Ptr)) i
  where
    by_test : (b c : Bool) → b || false ≡ true → b || (c || false) ≡ true
    by_test true c h = refl
    by_test false c h = absurd cc

abbrev i32 : Tok
i32 = word kinds.MemoryInteger (codes "i32")

leaf_right : (room : Room) (t : Tok) (x : Typed) → leaf_means room t ≡ Ok x → leaf whole (t ∷ []) x
leaf_right room t x e = let s = (leaf_rule room).law.sound (t ∷ []) [] x (ap (token_means t []) e) in one_token s.0 s.1 ((leaf_rule room).law.contains s.0 x s.2)
  where
    one_token : (front : List Tok) → t ∷ [] ≡ front ++ [] → leaf whole front x → leaf whole (t ∷ []) x
    one_token front e s = subst (λ (y : List Tok). leaf whole y x) (sym (e ∙ append-nil front)) s

pub leaf_exchanged : (room : Room) → Exchanges (leaf whole) (leaf_at room)
leaf_exchanged room = single (leaf whole) (leaf_means room) (refuses_angle (leaf_means room) LEAF memory_refusal (leaf_outside room) refl) (leaf_right room) (i32 ∷ [], scalar_typed i32, scalar_spelled i32 refl, (int_32_real, tt)) (says_shaped (leaf whole) (leaf_means room) LEAF (leaf_inside room) (leaf_outside room) refl refl (i32, refl, scalar_goes i32 refl int_32_real) (λ v i r. scalar_goes v (memory_is_scalar v i) r))

-- ---- arrays and structures

pub count_exchanged : Exchanges count count_at
count_exchanged = plain_valued NUMBER (count_of 64) count_rule refl

pub times_exchanged : Exchanges (the kinds.Times) (the_at kinds.Times)
times_exchanged = plain_class kinds.Times times_rule refl

pub brace_behind_angle_exchanged : Exchanges brace_behind_angle brace_behind_angle_at
brace_behind_angle_exchanged = of_token (is_class tokens angle_refusal (number kinds.OpenBrace)) brace_behind_angle_rule (refuses_angle (is_class tokens angle_refusal (number kinds.OpenBrace)) OPEN_BRACE angle_refusal (class_outside angle_refusal (number kinds.OpenBrace)) refl) (angle_says (number kinds.OpenBrace) refl)

module _ (of : ℕ → Reader Tok Typed) (of_one : (n : ℕ) → Exchanges any_shape (of n)) where
  elements_exchanged : (line : ℕ) → Exchanges (elements (λ _. any_shape) line) (elements_at of line)
  unfolding elements elements_at
  elements_exchanged line = seq count_exchanged (λ n. seq times_exchanged (λ _. seq (of_one n) (λ e. seq close_bracket_exchanged (λ _. nothing _))))

  array_exchanged : Exchanges (array_of (λ _. any_shape)) (array_at of)
  unfolding array_of array_at
  array_exchanged = seq (one_sample OPEN_BRACKET line_of (mark kinds.OpenBracket (codes "[")) refl open_bracket_real refl) (λ line. elements_exchanged line)

module _ (packed : Bool) (part : Extent → Reader Tok Typed) (each : (s : Extent) → Exchanges any_shape (part s)) where
  further_exchanged : (s : Extent) → Exchanges (further packed (λ _. any_shape) s) (further_at packed part s)
  unfolding further further_at
  further_exchanged s = seq comma_exchanged (λ _. seq (each s) (λ p. nothing _))

  further_some : (s : Extent) (x : Written × Extent) → further packed (λ _. any_shape) s [] x → ⊥
  unfolding further
  further_some s x q = token_begins (is_class tokens refusal (number kinds.Comma)) _ x q

  chained_exchanged : (s : Extent) → Exchanges (Chain anywhere (further packed (λ _. any_shape)) s) (chain_at anywhere begins (further_at packed part) s)
  chained_exchanged s = chain anywhere (λ _. COMMA) (further packed (λ _. any_shape)) (further_at packed part) further_exchanged further_some (λ _. ([], [], (refl, refl), tt)) (λ _ _. refl) s

  more_members_exchanged : (first : Written) → Exchanges (more_members packed (λ _. any_shape) first) (more_members_at packed part first)
  unfolding more_members more_members_at
  more_members_exchanged first = seq (chained_exchanged (grown packed no_bytes (extent_of first))) (λ more. seq close_brace_exchanged (λ _. nothing _))

  members_exchanged : Exchanges (members packed (λ _. any_shape)) (members_at packed part)
  unfolding members members_at
  members_exchanged = alt CLOSE_BRACE refl (seq close_brace_exchanged (λ _. nothing _)) (seq (each no_bytes) (λ first. more_members_exchanged first.shape))

structure_exchanged : (part : Extent → Reader Tok Typed) → ((s : Extent) → Exchanges any_shape (part s)) → Exchanges (structure_of (λ _. any_shape)) (structure_at part)
unfolding structure_of structure_at
structure_exchanged part each = seq (one_sample OPEN_BRACE line_of (mark kinds.OpenBrace (codes "{")) refl open_brace_real refl) (λ line. seq (members_exchanged false part each) (λ parts. nothing _))

-- ---- `<`, and a number directly behind it

same : (n m : ℕ) → nat_eq n m ≡ true → n ≡ m
same n m h = grind arith

abbrev fine : Unit {0} → Result (Unit {0}) TokenFault
fine u = Ok u

module _ {B : Type 0} {wide : Unit {0} → Form Tok B} {h : Unit {0} → Reader Tok B} (laws : (u : Unit {0}) → Exchanges (wide u) (h u)) where
  abbrev behind_one : Form Tok B
  behind_one = form.◌>>=◌ brace_behind_angle wide

  abbrev behind_one_at : Reader Tok B
  behind_one_at = brace_behind_angle_at >>= h

  behind_law : Exchanges behind_one behind_one_at
  behind_law = seq brace_behind_angle_exchanged laws

  begins_some : (x : B) → behind_one [] x → ⊥
  begins_some x q = token_begins (is_class tokens angle_refusal (number kinds.OpenBrace)) wide x q

  -- a brace goes on behind `<`
  brace_goes : (u : Tok) × (among tokens OPEN_BRACE u ≡ true) × Goes behind_one [] u
  unfolding form.◌>>=◌ is_class
  brace_goes = let z = behind_law.some in by_some z.0 z.1 z.2 z.3
    where
      by_test : (v : Tok) (b : Bool) → cond b (fine tt) (Err (angle_refusal (number v.kind))) ≡ fine tt → b || false ≡ true
      by_test v true s = refl
      by_test v false s = absurd cc

      by_some : (ts : List Tok) (x : B) → behind_one ts x → AllReal tokens ts → (u : Tok) × (among tokens OPEN_BRACE u ≡ true) × Goes behind_one [] u
      by_some [] x q r = absurd (begins_some x q)
      by_some (t ∷ more) x ([], back, u, e, s, q) r = absurd s
      by_some (t ∷ more) x (v ∷ w ∷ front, back, u, e, s, q) r = absurd s
      by_some (t ∷ more) x (v ∷ [], back, u, e, s, q) r = (t, ap (λ (y : Tok). among tokens OPEN_BRACE y) (cons_is t v more back e).0 ∙ by_test v (nat_eq (number v.kind) (number kinds.OpenBrace)) s, (more, x, (v ∷ [], back, u, e, s, q), r))

  number_told : (t : Tok) (rest : List Tok) → nat_eq (number t.kind) (number kinds.Number) ≡ true → behind_one_at (t ∷ rest) ≡ fault_at Profile (t ∷ rest)
  unfolding is_class
  number_told t rest e = ap (λ (n : ℕ). follow (token_means t rest (cond (nat_eq n (number kinds.OpenBrace)) (fine tt) (Err (angle_refusal n)))) h) (same (number t.kind) (number kinds.Number) e)

  told_number : (k : TokenKind) → nat_eq (number k) (number kinds.Number) ≡ true → IsTold true k (Stuck behind_one_at []) (Goes behind_one [])
  told_number = only_number (λ (k : TokenKind). IsTold true k (Stuck behind_one_at []) (Goes behind_one [])) (λ _. brace_goes)

  after_angle : (t : Tok) (rest : List Tok) (o : Result B TokenFault) → behind_one_at (t ∷ rest) ≡ ends o (t ∷ rest) → OutcomeAt false nowhere behind_one behind_one_at true [] t.kind o
  after_angle t rest o d = by_test (nat_eq (number t.kind) (number kinds.Number)) refl
    where
      by_test : (b : Bool) → nat_eq (number t.kind) (number kinds.Number) ≡ b → OutcomeAt false nowhere behind_one behind_one_at true [] t.kind o
      by_test true e =
          let w = err_ends (record { left = length (t ∷ rest); kind = Profile }) o (t ∷ rest) (sym (number_told t rest e) ∙ d) in
          subst (λ (x : Result B TokenFault). OutcomeAt false nowhere behind_one behind_one_at true [] t.kind x) (ap (λ (x : Fault). Err x.kind) w.2 ∙ sym w.1) (told_number t.kind e)
      by_test false e = same_at false nowhere behind_one behind_one_at [] t.kind o e (behind_law.swap [] t rest o d)

-- `<`, and `{` behind it
pub angle_and_brace : {A B : Type 0} {wide : Form Tok A} {f : Reader Tok A} {wide' : A → Unit {0} → Form Tok B} {h : A → Unit {0} → Reader Tok B} → Swaps false true nowhere wide f → ((a : A) (u : Unit {0}) → Exchanges (wide' a u) (h a u)) → Exchanges (form.◌>>=◌ wide (λ a. form.◌>>=◌ brace_behind_angle (wide' a))) (f >>= λ a. brace_behind_angle_at >>= h a)
angle_and_brace law laws = seq_by false false nowhere law (λ a. behind_law (laws a)) (λ e. e) (λ e a x q. absurd (begins_some (laws a) x q)) (λ e. e) (λ e a t rest o d. after_angle (laws a) t rest o d) (λ front v. v) (λ one two a s v. v) (λ e. absurd (differ e))

packed_exchanged : (part : Extent → Reader Tok Typed) → ((s : Extent) → Exchanges any_shape (part s)) → Exchanges (packed_of (λ _. any_shape)) (packed_at part)
unfolding packed_of packed_at packed_behind packed_behind_at
packed_exchanged part each = angle_and_brace (loose_one OPEN_ANGLE line_of (mark kinds.OpenAngle (codes "<")) refl open_angle_real refl) (λ line _. seq (members_exchanged true part each) (λ parts. seq close_angle_exchanged (λ _. nothing _)))

shape_over_exchanged : (of : ℕ → Reader Tok Typed) → ((n : ℕ) → Exchanges any_shape (of n)) → (part : Bool → Extent → Reader Tok Typed) → ((b : Bool) (s : Extent) → Exchanges any_shape (part b s)) → (innermost : Reader Tok Typed) → Exchanges (leaf whole) innermost
    → Exchanges (shape_over (λ _. any_shape) (λ _ _. any_shape) (leaf whole)) (shape_over_at of part innermost)
unfolding shape_over shape_over_at
shape_over_exchanged of of_one part each innermost last =
    alt OPEN_BRACKET refl (array_exchanged of of_one) (alt OPEN_BRACE refl (structure_exchanged (part false) (each false)) (alt OPEN_ANGLE refl (packed_exchanged (part true) (each true)) last))

at_no_level : (ts : List Tok) (x : Typed) → leaf whole ts x → any_shape ts x
at_no_level ts x s = (0, s)

innermost_exchanged : (room : Room) → Exchanges any_shape (innermost_at room)
unfolding innermost_at
innermost_exchanged room = barred BRACKETS refl (recast at_no_level (leaf_exchanged room))

pub shape_exchanged : (depth : ℕ) (room : Room) → Exchanges any_shape (shape_at depth room)
shape_exchanged zero room = innermost_exchanged room
shape_exchanged (suc depth) room =
    recast nested (shape_over_exchanged (λ n. shape_at depth (shared n room)) (λ n. shape_exchanged depth (shared n room)) (λ packed s. shape_at depth (left packed room s)) (λ packed s. shape_exchanged depth (left packed room s)) (leaf_at room) (leaf_exchanged room))

pub memory_shape_exchanged : Exchanges any_shape memory_shape_at
unfolding memory_shape_at
memory_shape_exchanged = shape_exchanged 32 whole
