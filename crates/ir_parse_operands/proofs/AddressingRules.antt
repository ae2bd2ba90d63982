-- The readers of `alloca` and `getelementptr` read them.
use Rattle.std.proofs.Common.{◌≡◌, ℕ, max, Bool, true, false, cond, ◌||◌, ◌&&◌, not, nat_eq, nat_lt, Option, Some, None, List, [], ◌∷◌, Result, Ok, Err, refl, sym, ap, subst, ◌∙◌, arith, ◌^◌, ◌≤◌, ◌⊎◌, inl, inr}
use Rattle.std.proofs.Math.Nat.{pow-le-pow_right}
use Rattle.std.specs.Prelude.{codes}
use Rattle.ir_lex.specs.declared.token_kind.TokenKind.TheVariants as kinds
use Rattle.ir_lex.specs.declared.token.TokenForm.TheVariants as forms
use Rattle.ir_lex.specs.TokenKinds.{number}
use Rattle.ir_lex.specs.Tok.{Tok}
use Rattle.ir_tree.specs.declared.operand.Reg.TheVariants.{Ptr}
use Rattle.ir_parse_parts.specs.Alphabet.{AllReal, among, contains}
use Rattle.ir_parse_parts.specs.Chained.{Chain, chain_at}
use Rattle.ir_parse_parts.specs.declared.fault.TokenFault.{TokenFault}
use Rattle.ir_parse_parts.specs.declared.fault.TokenFault.TheVariants.{Limit}
use Rattle.ir_parse_parts.specs.Readers.{Reader, fault_at, pick, token_at, token_means}
use Rattle.ir_parse_parts.specs.Rules.{Rule, IsWithin, in_range, is_valued}
use Rattle.ir_parse_parts.proofs.Composed.{Begun, widened}
use Rattle.ir_parse_parts.proofs.Chains.{chain_lawful}
use Rattle.ir_parse_parts.proofs.Rules as rules
use Rattle.ir_parse_parts.proofs.Rules.{apart_from, within_of}
use Rattle.ir_parse_operands.specs.Addressing.{slots_fit, any_slots, fitting, fitting_count, is_count, count_in, many_slots, one_slot, slots_behind, reserving, indexing, attaching, behind_comma, further, indices, addressing}
use Rattle.ir_parse_operands.specs.AddressingAt.{passes, too_many, count_means, begins, count_in_at, many_slots_at, one_slot_at, slots_behind_at, reserving_at, indexing_at, attaching_at, behind_comma_at, further_at, indices_at, addressing_at}
use Rattle.ir_parse_parts.specs.Ahead.{ALIGNED}
use Rattle.ir_parse_parts.specs.Classes.{tokens, refusal, NUMERALS}
use Rattle.ir_parse_parts.specs.Literals.{literal}
use Rattle.ir_parse_parts.specs.Metadata.{META}
use Rattle.ir_parse_parts.specs.MetadataAt.{COMMA, PAREN}
use Rattle.ir_parse_parts.specs.Operands.{INTEGER, REG}
use Rattle.ir_parse_operands.specs.Adding.{anywhere}
use Rattle.ir_parse_operands.specs.ShapeForms.{any_shape, memory_shape, NUMBER, counted, count_of}
use Rattle.ir_parse_parts.specs.Shapes.{Written, pointer}
use Rattle.ir_parse_operands.proofs.Barred.{barred_here}
use Rattle.ir_parse_operands.proofs.AlignmentRules.{AFTER, aligned_rule, alignment_rest_rule}
use Rattle.ir_parse_parts.proofs.Nodes.{attached_rule}
use Rattle.ir_parse_parts.proofs.OperandRules.{integer_rule}
use Rattle.ir_parse_operands.proofs.ShapeRules.{SHAPE, memory_shape_rule}
use Rattle.ir_parse_parts.proofs.Singles.{sample, not_number, not_limit, comma_rule, number_real}
use Rattle.ir_parse_operands.proofs.ValueRules.{operand_rule, argument_rule, pointer_rule, stepping_rule}

-- ---- alloca

abbrev zero : Tok
zero = sample forms.Number kinds.Number (codes "0")

abbrev one : Tok
one = sample forms.Number kinds.Number (codes "1")

-- an integer has at least one bit, so 1 is a literal of it
one_below : (w : ℕ) → nat_lt 1 (2 ^ max 1 w) ≡ true
one_below w = let h : 2 ^ 1 ≤ 2 ^ max 1 w = pow-le-pow_right {n = 2} (omega arith) {i = 1} {j = max 1 w} (omega arith) in grind (arith, h)

counts_one : (w : ℕ) → count_of (max 1 w) one ≡ Some 1
unfolding counted literal
counts_one w = ap (λ (b : Bool). cond b (Some 1) None) (one_below w)

only : (n m : ℕ) → nat_eq n m || false ≡ true → n ≡ m
only n m h = by_value (nat_eq n m) refl h
  where
    equal : (n m : ℕ) → nat_eq n m ≡ true → n ≡ m
    equal n m e = grind arith

    by_value : (b : Bool) → nat_eq n m ≡ b → b || false ≡ true → n ≡ m
    by_value true e p = equal n m e
    by_value false e p = absurd cc

module _ (fits : ℕ → Bool) (some : fits 1 ≡ true) where
  fits_one : (w : ℕ) → fitting_count fits w one ≡ Some 1
  fits_one w = ap (fitting fits) (counts_one w) ∙ ap (λ (b : Bool). cond b (Some 1) None) some

  within : (w : ℕ) (t : Tok) → among tokens NUMBER t ≡ true → fitting_count fits w t ≡ None → IsWithin tokens NUMBER (fitting_count fits w) t
  within w t p q =
      let e : number t.kind ≡ number kinds.Number = only (number t.kind) (number kinds.Number) p in
      record { writes = ap (contains NUMERALS) e; other = one; means = 1; alike = sym e; has = fits_one w; real = number_real }

  fitting_rule : (w : ℕ) → Rule tokens (count_in fits w) (count_in fits w) (token_at (is_count fits w)) NUMBER [] false
  fitting_rule w = rules.valued_rule tokens refusal not_number not_limit NUMBER (fitting_count fits w) (within w) one 1 refl (fits_one w) number_real

  -- ---- without the limits

  fewer : (o : Option ℕ) (n : ℕ) → fitting fits o ≡ Some n → fitting (any_slots pointer) o ≡ Some n
  fewer None n e = absurd cc
  fewer (Some m) n e = by_test (fits m) e
    where
      by_test : (b : Bool) → cond b (Some m) None ≡ Some n → Some m ≡ Some n
      by_test true d = d
      by_test false d = absurd cc

  abbrev counted_if : Bool → Option ℕ → TokenFault → Result ℕ TokenFault
  counted_if b o k = cond b (in_range o) (Err k)

  ranged : (o : Option ℕ) (n : ℕ) → in_range o ≡ Ok n → o ≡ Some n
  ranged None n e = absurd cc
  ranged (Some m) n e = cc

  count_wide : (w : ℕ) (t : Tok) (n : ℕ) → is_count fits w t ≡ Ok n → is_count (any_slots pointer) w t ≡ Ok n
  unfolding is_valued
  count_wide w t n e = by_class (among tokens NUMBER t) e
    where
      by_class : (b : Bool) → counted_if b (fitting_count fits w t) (refusal (number t.kind)) ≡ Ok n → counted_if b (fitting_count (any_slots pointer) w t) (refusal (number t.kind)) ≡ Ok n
      by_class true d = ap in_range (fewer (count_of (max 1 w) t) n (ranged (fitting_count fits w t) n d))
      by_class false d = absurd cc

  token_wide : (w : ℕ) (ts : List Tok) (n : ℕ) → count_in fits w ts n → count_in (any_slots pointer) w ts n
  token_wide w [] n s = absurd s
  token_wide w (t ∷ []) n s = count_wide w t n s
  token_wide w (t ∷ u ∷ ts) n s = absurd s

  -- one that fits is not too many
  not_too_many : (w : ℕ) (t : Tok) (n : ℕ) → is_count fits w t ≡ Ok n → too_many fits w t ≡ false
  unfolding is_valued
  not_too_many w t n e = by_class (among tokens NUMBER t) (count_of (max 1 w) t) e
    where
      by_test : (m : ℕ) (b : Bool) → in_range (cond b (Some m) None) ≡ Ok n → not b ≡ false
      by_test m true d = refl
      by_test m false d = absurd cc

      by_class : (b : Bool) (o : Option ℕ) → counted_if b (fitting fits o) (refusal (number t.kind)) ≡ Ok n → b && passes fits o ≡ false
      by_class true None d = refl
      by_class true (Some m) d = by_test m (fits m) d
      by_class false o d = refl

  without : (w : ℕ) (t : Tok) (ts : List Tok) (n : ℕ) → count_in fits w (t ∷ ts) n → too_many fits w t ≡ false
  without w t [] n s = not_too_many w t n s
  without w t (u ∷ ts) n s = absurd s

  -- one that isn't too many fits
  fits_here : (w : ℕ) (t : Tok) (n : ℕ) → is_count (any_slots pointer) w t ≡ Ok n → too_many fits w t ≡ false → is_count fits w t ≡ Ok n
  unfolding is_valued
  fits_here w t n e m = by_class (among tokens NUMBER t) (count_of (max 1 w) t) e m
    where
      by_test : (k : ℕ) (b : Bool) → in_range (Some k) ≡ Ok n → not b ≡ false → in_range (cond b (Some k) None) ≡ Ok n
      by_test k true d m = d
      by_test k false d m = absurd cc

      by_class : (b : Bool) (o : Option ℕ) → counted_if b (fitting (any_slots pointer) o) (refusal (number t.kind)) ≡ Ok n → b && passes fits o ≡ false → counted_if b (fitting fits o) (refusal (number t.kind)) ≡ Ok n
      by_class true None d m = d
      by_class true (Some k) d m = by_test k (fits k) d m
      by_class false o d m = d

  count_or_many : (w : ℕ) (ts : List Tok) (n : ℕ) → count_in (any_slots pointer) w ts n → count_in fits w ts n ⊎ Begun (too_many fits w) ts
  count_or_many w [] n s = absurd s
  count_or_many w (t ∷ []) n s = by_test (too_many fits w t) refl
    where
      by_test : (b : Bool) → too_many fits w t ≡ b → count_in fits w (t ∷ []) n ⊎ (too_many fits w t ≡ true)
      by_test true e = inr e
      by_test false e = inl (fits_here w t n s e)
  count_or_many w (t ∷ u ∷ ts) n s = absurd s

  begins_count : (w : ℕ) (t : Tok) → among tokens NUMBER t || too_many fits w t ≡ true → among tokens NUMBER t ≡ true
  begins_count w t e = by_class (among tokens NUMBER t) (passes fits (count_of (max 1 w) t)) e
    where
      by_class : (b p : Bool) → b || (b && p) ≡ true → b ≡ true
      by_class true p e = refl
      by_class false p e = e

  -- one that is too many goes on without the limits
  opens : (w : ℕ) (t : Tok) → too_many fits w t ≡ true → (more : List Tok) × (n : ℕ) × count_in (any_slots pointer) w (t ∷ more) n × AllReal tokens more
  unfolding is_valued
  opens w t h = by_class (among tokens NUMBER t) (count_of (max 1 w) t) refl refl h
    where
      by_class : (b : Bool) (o : Option ℕ) → among tokens NUMBER t ≡ b → count_of (max 1 w) t ≡ o → b && passes fits o ≡ true → (more : List Tok) × (n : ℕ) × count_in (any_slots pointer) w (t ∷ more) n × AllReal tokens more
      by_class true None p q d = absurd cc
      by_class true (Some n) p q d = ([], n, ap (λ (c : Bool). counted_if c (fitting_count (any_slots pointer) w t) (refusal (number t.kind))) p ∙ ap (λ (o : Option ℕ). in_range (fitting (any_slots pointer) o)) q, tt)
      by_class false o p q d = absurd cc

  -- what is too many is a literal
  is_count_number : (w : ℕ) (t : Tok) → too_many fits w t ≡ true → among tokens NUMBER t ≡ true
  is_count_number w t h = by_class (among tokens NUMBER t) (passes fits (count_of (max 1 w) t)) h
    where
      by_class : (b c : Bool) → b && c ≡ true → b ≡ true
      by_class true c h = refl
      by_class false c h = absurd cc

  barred_rule : (w : ℕ) → Rule tokens (count_in fits w) (count_in (any_slots pointer) w) (pick (too_many fits w) (fault_at Limit) (token_at (is_count fits w))) NUMBER [] false
  barred_rule w = record {
    law = widened tokens (among tokens NUMBER) (among tokens [])
        (barred_here tokens (count_in fits w) (count_in fits w) (count_in (any_slots pointer) w) (token_at (is_count fits w)) (too_many fits w) (among tokens NUMBER) (among tokens []) (fitting_rule w).law (token_wide w) (count_or_many w) (λ t u n m. inr (is_count_number w t)) (without w) (opens w))
        (λ t e. begins_count w t e) (λ t e. e);
  }

  barred_is : (w : ℕ) (ts : List Tok) → pick (too_many fits w) (fault_at Limit) (token_at (is_count fits w)) ts ≡ count_in_at fits w ts
  unfolding count_means
  barred_is w [] = refl
  barred_is w (t ∷ ts) = by_test (too_many fits w t)
    where
      by_test : (b : Bool) → cond b (fault_at Limit (t ∷ ts)) (token_means t ts (is_count fits w t)) ≡ token_means t ts (cond b (Err Limit) (is_count fits w t))
      by_test true = refl
      by_test false = refl

  count_in_rule : (w : ℕ) → Rule tokens (count_in fits w) (count_in (any_slots pointer) w) (count_in_at fits w) NUMBER [] false
  count_in_rule w = subst (λ (f : Reader Tok ℕ). Rule tokens (count_in fits w) (count_in (any_slots pointer) w) f NUMBER [] false) (λ i ts. barred_is w ts i) (barred_rule w)

  many_slots_rule : Rule tokens (many_slots fits) (many_slots (any_slots pointer)) (many_slots_at fits) INTEGER AFTER false
  unfolding many_slots many_slots_at
  many_slots_rule = rules.broader tokens INTEGER AFTER (rules.seq tokens integer_rule (λ w. rules.seq tokens (count_in_rule w) (λ n. rules.seq tokens alignment_rest_rule (λ a. rules.nothing tokens _) refl) refl) refl) refl refl

one_slot_rule : Rule tokens one_slot one_slot one_slot_at ALIGNED AFTER false
unfolding one_slot one_slot_at
one_slot_rule = rules.seq tokens aligned_rule (λ a. rules.nothing tokens _) refl

slots_behind_rule : (s : Written) → Rule tokens (slots_behind (slots_fit s)) (slots_behind (any_slots s)) (slots_behind_at (slots_fit s)) COMMA AFTER true
unfolding slots_behind slots_behind_at
slots_behind_rule s = rules.broader tokens COMMA AFTER (rules.alt tokens COMMA (rules.seq tokens comma_rule (λ _. rules.alt tokens ALIGNED one_slot_rule (many_slots_rule (slots_fit s) refl) refl refl) refl) (rules.nothing tokens _) refl refl) refl refl

pub reserving_rule : Rule tokens (reserving slots_fit memory_shape) (reserving any_slots any_shape) reserving_at SHAPE AFTER false
unfolding reserving reserving_at
reserving_rule = rules.seq tokens memory_shape_rule (λ typed. rules.seq tokens (slots_behind_rule typed.shape) (λ s. rules.nothing tokens _) refl) refl

-- ---- getelementptr

indexing_rule : Rule tokens (indexing memory_shape) (indexing any_shape) indexing_at REG [] false
unfolding indexing indexing_at
indexing_rule = rules.seq tokens argument_rule (λ _. rules.nothing tokens _) refl

attaching_rule : Rule tokens attaching attaching attaching_at META PAREN false
unfolding attaching attaching_at
attaching_rule = rules.seq tokens attached_rule (λ _. rules.nothing tokens _) refl

abbrev INDEX : List ℕ
INDEX = number kinds.Meta ∷ number kinds.Bang ∷ REG

behind_comma_rule : (s : Bool) → Rule tokens (behind_comma memory_shape s) (behind_comma any_shape s) (behind_comma_at s) INDEX PAREN false
behind_comma_rule true = rules.broader tokens INDEX PAREN attaching_rule refl refl
behind_comma_rule false = rules.broader tokens INDEX PAREN (rules.alt tokens META attaching_rule indexing_rule refl refl) refl refl

pub further_rule : (s : Bool) → Rule tokens (further memory_shape s) (further any_shape s) (further_at s) COMMA PAREN false
unfolding further further_at
further_rule s = rules.seq tokens comma_rule (λ _. behind_comma_rule s) refl

more_rule : Rule tokens (Chain anywhere (further memory_shape) false) (Chain anywhere (further any_shape) false) (chain_at anywhere begins further_at false) COMMA AFTER true
more_rule = record {
  law = chain_lawful tokens anywhere begins begins (λ _. among tokens PAREN) (among tokens AFTER) (further memory_shape) (further any_shape) further_at (λ s. (further_rule s).law) (λ s t u n m. ap (contains COMMA) (sym m)) (λ s t d e. e)
      (λ s next front a g t p q. apart_from PAREN COMMA refl (number t.kind) p q)
      (λ s t p. within_of PAREN AFTER refl (number t.kind) p)
      (λ s t d p. within_of COMMA AFTER refl (number t.kind) p)
      (λ s. ([], [], (refl, refl), tt)) false;
}

indices_rule : Rule tokens (indices memory_shape) (indices any_shape) indices_at COMMA AFTER true
unfolding indices indices_at
indices_rule = rules.seq tokens more_rule (λ _. rules.nothing tokens _) refl

abbrev pub STEPPED : List ℕ
STEPPED = number kinds.Inbounds ∷ number kinds.Nuw ∷ number kinds.Nusw ∷ SHAPE

pub addressing_rule : Rule tokens (addressing memory_shape) (addressing any_shape) addressing_at STEPPED AFTER false
unfolding addressing addressing_at
addressing_rule = rules.seq tokens stepping_rule (λ inbounds. rules.seq tokens memory_shape_rule (λ typed. rules.seq tokens comma_rule (λ _. rules.seq tokens pointer_rule (λ _. rules.seq tokens (operand_rule Ptr) (λ base. rules.seq tokens indices_rule (λ is. rules.nothing tokens _) refl) refl) refl) refl) refl) refl
