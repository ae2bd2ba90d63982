-- The readers of allocations and of addresses tell a token that is left out in some places where one that it stands for goes on.
use Rattle.std.proofs.Common.{◌≡◌, ℕ, ◌≤◌, ◌^◌, nat_lt, max, Bool, true, false, cond, ◌&&◌, not, Option, Some, None, [], ◌∷◌, Result, Ok, Err, refl, ap, subst, arith}
use Rattle.std.proofs.Math.Nat.{pow-le-pow_right}
use Rattle.std.specs.Prelude.{codes}
use Rattle.ir_lex.specs.TokenKinds.{number}
use Rattle.ir_lex.specs.Tok.{Tok}
use Rattle.ir_lex.specs.declared.token_kind.TokenKind.TheVariants as kinds
use Rattle.ir_lex.specs.declared.token.TokenForm.TheVariants as forms
use Rattle.ir_tree.specs.declared.operand.Reg.TheVariants.{Ptr}
use Rattle.ir_parse_parts.specs.Alphabet.{among}
use Rattle.ir_parse_parts.specs.Chained.{Chain, chain_at}
use Rattle.ir_parse_parts.specs.Lawful.{IsBound}
use Rattle.ir_parse_parts.specs.Rules.{in_range, is_class, is_valued}
use Rattle.ir_parse_parts.specs.declared.fault.TokenFault.TheVariants.{Number, Limit}
use Rattle.ir_parse_parts.specs.declared.fault.TokenFault.{TokenFault}
use Rattle.ir_parse_operands.specs.Addressing.{slots_fit, any_slots, one_slot, slots_behind, reserving, indexing, attaching, behind_comma, further, indices, addressing, fitting, is_count, count_in, many_slots}
use Rattle.ir_parse_operands.specs.AddressingAt.{begins, one_slot_at, slots_behind_at, reserving_at, indexing_at, attaching_at, behind_comma_at, further_at, indices_at, addressing_at, passes, count_means, count_in_at, many_slots_at}
use Rattle.ir_parse_parts.specs.Ahead.{ALIGNED}
use Rattle.ir_parse_parts.specs.Classes.{tokens, refusal}
use Rattle.ir_parse_parts.specs.Literals.{literal}
use Rattle.ir_parse_parts.specs.Metadata.{META}
use Rattle.ir_parse_parts.specs.MetadataAt.{COMMA}
use Rattle.ir_parse_operands.specs.Adding as adding
use Rattle.ir_parse_operands.specs.ShapeForms.{any_shape, NUMBER, counted, count_of}
use Rattle.ir_parse_parts.specs.Shapes.{Written, pointer}
use Rattle.ir_parse_parts.specs.declared.raw.Argument.{Argument}
use Rattle.ir_parse_parts.proofs.Singles.{sample, number_real}
use Rattle.ir_parse.proofs.Exchanged.{Exchanges, alt, nothing, seq, single, token_begins}
use Rattle.ir_parse.proofs.ExchangedChains.{chain}
use Rattle.ir_parse.proofs.ExchangedMemory as memory
use Rattle.ir_parse.proofs.ExchangedMemory.{alignment_rest_exchanged}
use Rattle.ir_parse.proofs.ExchangedNodes.{attached_exchanged}
use Rattle.ir_parse.proofs.ExchangedOperands.{integer_exchanged}
use Rattle.ir_parse.proofs.ExchangedShapes.{memory_shape_exchanged}
use Rattle.ir_parse.proofs.ExchangedTokens.{refuses_angle, says_plainly}
use Rattle.ir_parse.proofs.ExchangedValues.{argument_exchanged, operand_exchanged, pointer_exchanged, stepping_exchanged}
use Rattle.ir_parse.proofs.ExchangedWords.{comma_exchanged}

abbrev one : Tok
one = sample forms.Number kinds.Number (codes "1")

-- an integer has at least one bit, so 1 is a literal of it
one_below : (w : ℕ) → nat_lt 1 (2 ^ max 1 w) ≡ true
one_below w = let h : 2 ^ 1 ≤ 2 ^ max 1 w = pow-le-pow_right {n = 2} (omega arith) {i = 1} {j = max 1 w} (omega arith) in grind (arith, h)

counts_one : (w : ℕ) → count_of (max 1 w) one ≡ Some 1
unfolding counted literal
counts_one w = ap (λ (b : Bool). cond b (Some 1) None) (one_below w)

one_counts : (w : ℕ) → is_count (any_slots pointer) w one ≡ Ok 1
unfolding is_valued
one_counts w = ap (λ (o : Option ℕ). in_range (fitting (any_slots pointer) o)) (counts_one w)

abbrev refuse : TokenFault → Result ℕ TokenFault
refuse k = Err k

err_is : (k l : TokenFault) → refuse k ≡ refuse l → k ≡ l
err_is k l e = cc

module _ (fits : ℕ → Bool) (w : ℕ) where
  count_right : (t : Tok) (n : ℕ) → count_means fits w t ≡ Ok n → count_in (any_slots pointer) w (t ∷ []) n
  unfolding count_means is_valued
  count_right t n e = by_class (among tokens NUMBER t) (count_of (max 1 w) t) e
    where
      by_fit : (m : ℕ) (b : Bool) → cond (not b) (refuse Limit) (in_range (cond b (Some m) None)) ≡ Ok n → in_range (Some m) ≡ Ok n
      by_fit m true e = e
      by_fit m false e = absurd cc

      by_class : (b : Bool) (o : Option ℕ) → cond (b && passes fits o) (refuse Limit) (cond b (in_range (fitting fits o)) (refuse (refusal (number t.kind)))) ≡ Ok n → cond b (in_range (fitting (any_slots pointer) o)) (refuse (refusal (number t.kind))) ≡ Ok n
      by_class true None e = absurd cc
      by_class true (Some m) e = by_fit m (fits m) e
      by_class false o e = absurd cc

  count_outside : (t : Tok) → among tokens NUMBER t ≡ false → count_means fits w t ≡ Err (refusal (number t.kind))
  unfolding count_means is_valued
  count_outside t e = rw e refl

  count_inside : (t : Tok) → among tokens NUMBER t ≡ true → (k : TokenFault) → count_means fits w t ≡ Err k → IsBound k
  unfolding count_means is_valued
  count_inside t p k d = by_class (among tokens NUMBER t) (count_of (max 1 w) t) p d
    where
      by_fit : (m : ℕ) (b : Bool) → cond (not b) (refuse Limit) (in_range (cond b (Some m) None)) ≡ refuse k → IsBound k
      by_fit m true d = absurd cc
      by_fit m false d = subst IsBound (err_is Limit k d) tt

      by_class : (b : Bool) (o : Option ℕ) → b ≡ true → cond (b && passes fits o) (refuse Limit) (cond b (in_range (fitting fits o)) (refuse (refusal (number t.kind)))) ≡ refuse k → IsBound k
      by_class true None p d = subst IsBound (err_is Number k d) tt
      by_class true (Some m) p d = by_fit m (fits m) d
      by_class false o p d = absurd cc

  count_exchanged : Exchanges (count_in (any_slots pointer) w) (count_in_at fits w)
  count_exchanged = single (count_in (any_slots pointer) w) (count_means fits w) (refuses_angle (count_means fits w) NUMBER refusal count_outside refl) count_right (one ∷ [], 1, one_counts w, (number_real, tt)) (says_plainly (count_in (any_slots pointer) w) (count_means fits w) NUMBER count_inside count_outside refl)

many_slots_exchanged : (fits : ℕ → Bool) → Exchanges (many_slots (any_slots pointer)) (many_slots_at fits)
unfolding many_slots many_slots_at
many_slots_exchanged fits = seq integer_exchanged (λ w. seq (count_exchanged fits w) (λ n. seq alignment_rest_exchanged (λ a. nothing _)))

pub one_slot_exchanged : Exchanges one_slot one_slot_at
unfolding one_slot one_slot_at
one_slot_exchanged = seq memory.aligned_exchanged (λ a. nothing _)

pub slots_behind_exchanged : (s : Written) → Exchanges (slots_behind (any_slots s)) (slots_behind_at (slots_fit s))
unfolding slots_behind slots_behind_at
slots_behind_exchanged s = alt COMMA refl (seq comma_exchanged (λ _. alt ALIGNED refl one_slot_exchanged (many_slots_exchanged (slots_fit s)))) (nothing _)

pub reserving_exchanged : Exchanges (reserving any_slots any_shape) reserving_at
unfolding reserving reserving_at
reserving_exchanged = seq memory_shape_exchanged (λ typed. seq (slots_behind_exchanged typed.shape) (λ s. nothing _))

pub indexing_exchanged : Exchanges (indexing any_shape) indexing_at
unfolding indexing indexing_at
indexing_exchanged = seq argument_exchanged (λ _. nothing _)

pub attaching_exchanged : Exchanges attaching attaching_at
unfolding attaching attaching_at
attaching_exchanged = seq attached_exchanged (λ _. nothing _)

pub behind_comma_exchanged : (s : Bool) → Exchanges (behind_comma any_shape s) (behind_comma_at s)
behind_comma_exchanged true = attaching_exchanged
behind_comma_exchanged false = alt META refl attaching_exchanged indexing_exchanged

pub further_exchanged : (s : Bool) → Exchanges (further any_shape s) (further_at s)
unfolding further further_at
further_exchanged s = seq comma_exchanged (λ _. behind_comma_exchanged s)

further_some : (s : Bool) (x : Option Argument × Bool) → further any_shape s [] x → ⊥
unfolding further
further_some s x q = token_begins (is_class tokens refusal (number kinds.Comma)) _ x q

pub more_exchanged : Exchanges (Chain adding.anywhere (further any_shape) false) (chain_at adding.anywhere begins further_at false)
more_exchanged = chain adding.anywhere (λ _. COMMA) (further any_shape) further_at further_exchanged further_some (λ _. ([], [], (refl, refl), tt)) (λ _ _. refl) false

pub indices_exchanged : Exchanges (indices any_shape) indices_at
unfolding indices indices_at
indices_exchanged = seq more_exchanged (λ _. nothing _)

pub addressing_exchanged : Exchanges (addressing any_shape) addressing_at
unfolding addressing addressing_at
addressing_exchanged = seq stepping_exchanged (λ inbounds. seq memory_shape_exchanged (λ typed. seq comma_exchanged (λ _. seq pointer_exchanged (λ _. seq (operand_exchanged Ptr) (λ base. seq indices_exchanged (λ is. nothing _))))))
