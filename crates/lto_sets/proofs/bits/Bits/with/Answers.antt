use Rattle.std.proofs.Common.{◌≡◌, ◌<◌, ◌/◌, ◌^◌, ◌∙◌, ap, length, get_or, set, true, arith}
use Rattle.std.proofs.lemmas.List.{get_or_read}
use Rattle.lto_sets.proofs.Rows.{length-row, word_within, row_changed, IsRow-changed, set_change}
use Rattle.lto_sets.proofs.bits.Bits.with.Goals as goal

pub index_mut-word-requires : goal.index_mut-word-requires
index_mut-word-requires c =
    let size = c.self.inside.size in
    let below : c.args.member < size = omega (arith, c.requires, length-row size c.self.inside.words.items, ap length c.self.view_is) in
    omega (arith, word_within size (length c.self.inside.words.items) c.args.member below c.self.invariant.long, c.self.inside.words.ok)

pub invariant_of-self : goal.invariant_of-self
invariant_of-self c =
    let size = c.self.inside.size in
    let words = c.self.inside.words.items in
    let k = c.args.member in
    let below : k < size = omega (arith, c.requires, length-row size words, ap length c.self.view_is) in
    let inside : k / 64 < length words = word_within size (length words) k below c.self.invariant.long in
    let word : c.index_mut-word.result.now ≡ get_or words (k / 64) 0 = get_or_read c.self.inside.words.items (c.args.member / 64) _ inside c.index_mut-word.ensures.value 0 in
    let fits : c.index_mut-word.result.now < 2 ^ 64 = omega (arith, word, c.self.invariant.within (k / 64)) in
    IsRow-changed size words k _ true below (set_change words k c.index_mut-word.result.now inside fits word) c.self.invariant

pub returns : goal.returns
returns c =
    let size = c.self.inside.size in
    let words = c.self.inside.words.items in
    let k = c.args.member in
    let below : k < size = omega (arith, c.requires, length-row size words, ap length c.self.view_is) in
    let inside : k / 64 < length words = word_within size (length words) k below c.self.invariant.long in
    let word : c.index_mut-word.result.now ≡ get_or words (k / 64) 0 = get_or_read c.self.inside.words.items (c.args.member / 64) _ inside c.index_mut-word.ensures.value 0 in
    let fits : c.index_mut-word.result.now < 2 ^ 64 = omega (arith, word, c.self.invariant.within (k / 64)) in
    row_changed size words k _ true below (set_change words k c.index_mut-word.result.now inside fits word)
    ∙ ap (λ s. set s k true) c.self.view_is
