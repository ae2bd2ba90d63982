use Rattle.std.proofs.Common.{◌≡◌, ◌∙◌, ℕ, sym, ap, subst, length, get_or, arith}
use Rattle.std.specs.Prelude.{bit_and}
use Rattle.std.proofs.lemmas.List.{with_items_is}
use Rattle.lto_sets.specs.Row.{row_of, IsRow}
use Rattle.lto_sets.specs.Sets.{meet_of}
use Rattle.lto_sets.proofs.Rows.{same_size, row_met, IsRow-met}
use Rattle.lto_sets.proofs.bits.Bits.meet.Goals as goal

pub meet_words-requires : goal.meet_words-requires
meet_words-requires c =
    let same : c.self.inside.size ≡ c.other.inside.size = same_size _ _ _ _ _ _ c.self.view_is c.other.view_is c.requires in
    omega (arith, same, c.self.invariant.long, c.other.invariant.long, ap length c.deref_mut.ensures.value, ap length c.deref.ensures.value)

pub invariant_of-self : goal.invariant_of-self
invariant_of-self c =
    let size = c.self.inside.size in
    let words = c.self.inside.words.items in
    let others = c.other.inside.words.items in
    let new = c.meet_words.new.words in
    let same : size ≡ c.other.inside.size = same_size size c.other.inside.size words others _ _ c.self.view_is c.other.view_is c.requires in
    let long : length new ≡ length words = omega (arith, ap length c.deref_mut.ensures.value) in
    let held = with_items_is c.self.inside.words new (omega (arith, long, c.self.inside.words.ok)) in
    let pairs : (i : ℕ) → get_or new i 0 ≡ bit_and (get_or words i 0) (get_or others i 0) =
    λ i. c.meet_words.ensures i
    ∙ ap (λ ws. bit_and (get_or ws i 0) (get_or c.deref.result.now i 0)) c.deref_mut.ensures.value
    ∙ ap (λ ws. bit_and (get_or words i 0) (get_or ws i 0)) c.deref.ensures.value in
    subst (λ ws. IsRow size ws) (sym held) (IsRow-met size words others new long pairs c.self.invariant)

pub returns : goal.returns
returns c =
    let size = c.self.inside.size in
    let words = c.self.inside.words.items in
    let others = c.other.inside.words.items in
    let new = c.meet_words.new.words in
    let same : size ≡ c.other.inside.size = same_size size c.other.inside.size words others _ _ c.self.view_is c.other.view_is c.requires in
    let long : length new ≡ length words = omega (arith, ap length c.deref_mut.ensures.value) in
    let held = with_items_is c.self.inside.words new (omega (arith, long, c.self.inside.words.ok)) in
    let pairs : (i : ℕ) → get_or new i 0 ≡ bit_and (get_or words i 0) (get_or others i 0) =
    λ i. c.meet_words.ensures i
    ∙ ap (λ ws. bit_and (get_or ws i 0) (get_or c.deref.result.now i 0)) c.deref_mut.ensures.value
    ∙ ap (λ ws. bit_and (get_or words i 0) (get_or ws i 0)) c.deref.ensures.value in
    ap (row_of size) held
    ∙ row_met size words others new pairs
    ∙ ap (λ s. meet_of s (row_of size others)) c.self.view_is
    ∙ ap (λ t. meet_of c.args.self.now t) (ap (λ n. row_of n others) same ∙ c.other.view_is)
