use Rattle.std.proofs.Common.{◌≡◌, ◌∙◌, sym, ap, subst}
use Rattle.std.proofs.lemmas.Bool.Decides.{Decides-eqb}
use Rattle.std.proofs.lemmas.Slice.Eq.{slice_eq-Decides}
use Rattle.lto_sets.specs.Row.{row_of, IsRow}
use Rattle.lto_sets.proofs.Rows.{same_size, row_injective}
use Rattle.lto_sets.proofs.bits.Bits.equal.Goals as goal

pub returns : goal.returns
returns c =
    let size = c.self.inside.size in
    let words = c.self.inside.words.items in
    let others = c.other.inside.words.items in
    let same : size ≡ c.other.inside.size = same_size size c.other.inside.size words others _ _ c.self.view_is c.other.view_is c.requires in
    let row : IsRow size others = subst (λ n. IsRow n others) (sym same) c.other.invariant in
    let view : row_of size others ≡ c.args.other.now = ap (λ n. row_of n others) same ∙ c.other.view_is in
    let decides = slice_eq-Decides Decides-eqb c.as_slice.result.now c.as_slice-2.result.now c.eq.result c.eq.ensures in (
      λ h.
          let equal : words ≡ others = sym c.as_slice.ensures.value ∙ decides.0 h ∙ c.as_slice-2.ensures.value in
          sym c.self.view_is ∙ ap (row_of size) equal ∙ view,
      λ e.
          let equal : words ≡ others = row_injective size words others c.self.invariant row (c.self.view_is ∙ e ∙ sym view) in
          decides.1 (c.as_slice.ensures.value ∙ equal ∙ sym c.as_slice-2.ensures.value),
    )
