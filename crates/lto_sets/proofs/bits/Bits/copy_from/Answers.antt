use Rattle.std.proofs.Common.{◌≡◌, ◌∙◌, sym, ap, subst, length, arith}
use Rattle.lto_sets.specs.Row.{row_of, IsRow}
use Rattle.lto_sets.proofs.Rows.{same_size}
use Rattle.lto_sets.proofs.bits.Bits.copy_from.Goals as goal

pub copy_from_slice-requires : goal.copy_from_slice-requires
copy_from_slice-requires c =
    let same : c.self.inside.size ≡ c.other.inside.size = same_size _ _ _ _ _ _ c.self.view_is c.other.view_is c.requires in
    omega (arith, same, c.self.invariant.long, c.other.invariant.long, c.self.inside.words.ok, c.other.inside.words.ok, ap length c.deref.ensures.value)

pub invariant_of-self : goal.invariant_of-self
invariant_of-self c =
    let size = c.self.inside.size in
    let others = c.other.inside.words.items in
    let same : size ≡ c.other.inside.size = same_size size c.other.inside.size c.self.inside.words.items others _ _ c.self.view_is c.other.view_is c.requires in
    subst (λ ws. IsRow size ws) (sym (c.copy_from_slice.ensures.items ∙ c.deref.ensures.value)) (subst (λ n. IsRow n others) (sym same) c.other.invariant)

pub returns : goal.returns
returns c =
    let size = c.self.inside.size in
    let others = c.other.inside.words.items in
    let same : size ≡ c.other.inside.size = same_size size c.other.inside.size c.self.inside.words.items others _ _ c.self.view_is c.other.view_is c.requires in
    ap (row_of size) (c.copy_from_slice.ensures.items ∙ c.deref.ensures.value) ∙ ap (λ n. row_of n others) same ∙ c.other.view_is
