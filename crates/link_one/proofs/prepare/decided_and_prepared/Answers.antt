use Rattle.std.proofs.Common.{◌≡◌, ◌≢◌, ◌∙◌, Err, IfErr, ap, inr, subst, sym}
use Rattle.std.proofs.lemmas.Result.{IfErr-at_err, IfOk-at_ok, err_from_is_err_and}
use Rattle.lto_fault.specs.declared.refusal.Refusal.{Refusal}
use Rattle.lto_fault.specs.declared.refusal.Refusal.TheVariants.{NoMemory}
use Rattle.combined_index.specs.Finals.{NoneTaken, final_names}
use Rattle.combined_index.specs.Promotions.{ArePromoted}
use Rattle.merge_meaning.specs.Lives.{parts}
use Rattle.thin_link.proofs.Counted.{modules_counted}
use Rattle.thin_link.specs.Views.{rows}
use Rattle.thin_link.specs.declared.deciding.ThinLink.{ThinLink}
use Rattle.link_one.specs.Preparing.{header_of}
use Rattle.link_one.specs.Refusing.{IsLeastTaken, IsUnlinked}
use Rattle.link_one.specs.declared.prepare.Contents.{Contents}
use Rattle.link_one.specs.declared.prepare.Prepared.{Prepared}
use Rattle.link_one.proofs.Preparing.{prepared_of}
use Rattle.link_one.proofs.prepare.decided_and_prepared.Goals as goal

pub named_contents-contents-requires-clause-suffixes : goal.named_contents-contents-requires-clause-suffixes
named_contents-contents-requires-clause-suffixes c = c.requires.suffixes ∙ sym (modules_counted c.args.modules.now c.in_ok-decided.decided.index c.in_ok-decided.ensures.done.combined)

pub returns-in_err-decided-2-clause-refused : goal.returns-in_err-decided-2-clause-refused
returns-in_err-decided-2-clause-refused c =
    let e : Refusal = c.in_err-decided-2.field-0.0 in
    let index = c.in_ok-decided.decided.index in
    let live = c.in_ok-decided.decided.live in
    let p = err_from_is_err_and c.from_residual-in_err-decided-2.result c.from_residual-in_err-decided-2.ensures.1 in
    let same : c.from_residual-in_err-decided-2.result ≡ Err e = p.1 ∙ ap (λ (x : Refusal). Err x) p.2 in
    subst (λ r. IfErr r (λ why. why ≢ NoMemory → IsUnlinked c.args.files.now c.args.exports.now c.args.import_limit c.args.suffixes.now c.args.modules.now why)) (sym same)
    (λ told. inr (record {
      index = index;
      live = live;
      imports = _;
      thin = c.in_ok-decided.ensures.done;
      taken =
          IfErr-at_err (λ why. why ≢ NoMemory → IsLeastTaken (final_names c.args.suffixes.now index.symbols live) why) c.in_err-decided-2.ensures.failed
          c.named_contents-contents.ensures.taken told;
    }))

pub returns-clause-done : goal.returns-clause-done
returns-clause-done c =
    let decided = c.in_ok-decided.decided in
    let ms = c.args.modules.now in
    let suffixes = c.args.suffixes.now in
    let made = c.in_ok-decided-2.ensures.made in
    let of = c.named_contents-contents.ensures in
    let is = c.kept.ensures in
    let same = c.in_ok-decided-2.ensures.kept in
    prepared_of c.args.exports.now c.args.import_limit suffixes ms decided.index decided.live (rows decided.imports.items) c.kept.result
    c.in_ok-decided.ensures.done (IfOk-at_ok (λ _. NoneTaken (final_names suffixes decided.index.symbols decided.live)) made of.named)
    (ap (λ (p : Prepared). p.index) is ∙ ap (λ (d : ThinLink). d.index) same)
    (ap (λ (p : Prepared). p.live) is ∙ ap (λ (d : ThinLink). d.live) same)
    (ap (λ (p : Prepared). rows p.imports.items) is ∙ ap (λ (d : ThinLink). rows d.imports.items) same)
    (subst (λ (p : Prepared). ArePromoted decided.index (rows decided.imports.items) (rows p.promoted.items)) (sym is)
    (IfOk-at_ok (λ (m : Contents). ArePromoted decided.index (rows decided.imports.items) (rows m.promoted.items)) made of.promoted))
    (ap (λ (p : Prepared). p.parts.items) is ∙ IfOk-at_ok (λ (m : Contents). m.parts.items ≡ parts ms decided.index.symbols decided.live suffixes) made of.parts)
    (ap (λ (p : Prepared). p.header) is ∙ IfOk-at_ok (λ (m : Contents). m.header ≡ header_of ms) made of.header)
