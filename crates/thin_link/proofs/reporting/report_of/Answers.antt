use Rattle.std.proofs.Common.{◌∙◌, List, Vec, Global, ℕ, length, sym, ap, subst}
use Rattle.std.proofs.lemmas.List.{length-map}
use Rattle.thin_link.specs.Views.{rows}
use Rattle.thin_link.specs.Reports.{IsReport}
use Rattle.thin_link.proofs.reporting.report_of.Goals as goal

pub report-requires : goal.report-requires
report-requires c = record {
  live = c.requires.live;
  imports =
      ap (λ (vs : List (Vec ℕ Global)). length vs) c.deref.ensures.value ∙ sym (length-map c.args.link.now.imports.items (λ (v : Vec ℕ Global). v.items))
      ∙ c.requires.imports;
  files = c.requires.files;
}

pub returns-in-Ok-clause-done : goal.returns-in-Ok-clause-done
returns-in-Ok-clause-done c =
    subst (λ (vs : List (Vec ℕ Global)). IsReport c.args.link.now.index c.args.link.now.live (rows vs) c.args.files.now c.in-Ok.text) c.deref.ensures.value c.in-Ok.ensures
