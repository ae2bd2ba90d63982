use Rattle.std.proofs.Common.{◌∙◌, ap, arith, length, sym}
use Rattle.lto_words.proofs.Lining.{all_named, file_unnamed, no_modules, no_parts, out_unnamed, too_many}
use Rattle.lto_words.proofs.listing.link_of.Goals.{then-modules-eq0-via-then-modules-eq0, then-modules-eq0-via-else-modules-eq0+then-modules-gt-MOST_MODULES}
use Rattle.lto_words.proofs.listing.link_of.Goals as goal

pub returns-then-modules-eq0 : goal.returns-then-modules-eq0
returns-then-modules-eq0 c = elim c.then-modules-eq0.branch [
  | then-modules-eq0-via-then-modules-eq0 w ↦ no_modules c.args.line.now c.spaces-modules.result c.spaces-modules.ensures w.if-modules-eq0.true
  | then-modules-eq0-via-else-modules-eq0+then-modules-gt-MOST_MODULES w ↦ too_many c.args.line.now c.spaces-modules.result c.spaces-modules.ensures w.if-modules-gt-MOST_MODULES.true
]

pub returns : goal.returns
returns c =
    let out = rw c.in-Some-2.is at c.in_ok-out.ensures in
    let files = rw c.in-Some-3.is at c.in_ok-files.ensures in
    all_named c.args.line.now c.in_ok-parts.parts.items c.in_ok-parts.ensures c.in-Some.first.now c.in-Some.others.now (sym c.deref.ensures.value ∙ c.in-Some.ensures.cases.0) c.spaces-modules.result c.spaces-modules.ensures
    (omega (arith, c.if-modules-gt-MOST_MODULES.false)) (omega (arith, c.if-modules-eq0.false)) c.in-Some-2.out c.in-Some-3.files out.0 out.1 files.0 files.1

pub returns-in_default : goal.returns-in_default
returns-in_default c = no_parts c.args.line.now c.in_ok-parts.parts.items c.in_ok-parts.ensures (ap length (sym c.deref.ensures.value) ∙ c.in_default.ensures.cases)

pub returns-in_default-2 : goal.returns-in_default-2
returns-in_default-2 c = out_unnamed c.args.line.now c.in_ok-parts.parts.items c.in_ok-parts.ensures c.in-Some.first.now c.in-Some.others.now (sym c.deref.ensures.value ∙ c.in-Some.ensures.cases.0) (rw c.in_default-2.is at c.in_ok-out.ensures)

pub returns-in_default-3 : goal.returns-in_default-3
returns-in_default-3 c =
    let out = rw c.in-Some-2.is at c.in_ok-out.ensures in
    file_unnamed c.args.line.now c.in_ok-parts.parts.items c.in_ok-parts.ensures c.in-Some.first.now c.in-Some.others.now (sym c.deref.ensures.value ∙ c.in-Some.ensures.cases.0) out.0 (rw c.in_default-3.is at c.in_ok-files.ensures)
