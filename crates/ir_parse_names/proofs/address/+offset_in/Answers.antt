use Rattle.std.proofs.Common.{◌≡◌, ℕ, ◌+◌, ◌%◌, ◌^◌, get_or, Ok, Err, refl, sym, ap, ◌∙◌, arith}
use Rattle.std.proofs.lemmas.Result.{err_from_is_err_and}
use Rattle.ir_parse_parts.specs.declared.address.Index.{Index}
use Rattle.ir_tree.specs.Forms.{Form, array, forms_of, structure}
use Rattle.ir_tree.specs.Layout.{offset, place}
use Rattle.ir_tree.specs.declared.failure.Failure.{Failure}
use Rattle.ir_parse_names.specs.declared.fault.Fault.{Fault}
use Rattle.ir_parse_names.specs.Addresses.{offset_in, plus, scaled}
use Rattle.ir_parse_names.proofs.Failing.{fails_too}
use Rattle.ir_parse_names.proofs.Firsts.{first_and_rest, rest_shorter}
use Rattle.ir_parse_names.proofs.Parts.{part_offset}
use Rattle.ir_parse_names.proofs.address.+offset_in.Goals as goal

-- what stands in place of an item where there is none
abbrev none : Index
none = record { width = 0; bits = 0; line = 0 }

pub returns-in_ok-inner-in-Array : goal.returns-in_ok-inner-in-Array
returns-in_ok-inner-in-Array t c =
    let shape : c.args.shape.now ≡ array c.in-Array.field-0 c.deref.result.now = rw (c.node.ensures, c.in-Array.is, c.deref.ensures) refl in
    ap (λ (f : Form). offset_in f c.args.indices.now) shape
    ∙ ap (offset_in (array c.in-Array.field-0 c.deref.result.now)) (first_and_rest c.args.indices.now none c.in-len1-up.len_at_least)
    ∙ ap (plus _) c.in_ok-inner-in-Array.ensures
    ∙ ap (λ (n : ℕ). Ok ((n + c.in_ok-inner-in-Array.inner) % 2 ^ 64)) (ap (scaled (get_or c.args.indices.now 0 none)) (c.deref.ensures ∙ sym c.deref-in-Array.ensures) ∙ sym c.scaled.ensures)

pub returns-in_err-inner-in-Array : goal.returns-in_err-inner-in-Array
returns-in_err-inner-in-Array t c =
    let e : Failure Fault = c.in_err-inner-in-Array.field-0.0 in
    let p = err_from_is_err_and c.from_residual.result c.from_residual.ensures.1 in
    let shape : c.args.shape.now ≡ array c.in-Array.field-0 c.deref.result.now = rw (c.node.ensures, c.in-Array.is, c.deref.ensures) refl in
    fails_too {V = ℕ} (λ n. n) (λ n. n) c.from_residual.result e _ _ (p.1 ∙ ap (λ (x : Failure Fault). Err x) p.2) c.in_err-inner-in-Array.ensures
    (λ d h. ap (λ (f : Form). offset_in f c.args.indices.now) shape ∙ ap (offset_in (array c.in-Array.field-0 c.deref.result.now)) (first_and_rest c.args.indices.now none c.in-len1-up.len_at_least) ∙ ap (plus _) h)

pub returns-in_ok-inner-in-Struct : goal.returns-in_ok-inner-in-Struct
returns-in_ok-inner-in-Struct t c =
    let shape : c.args.shape.now ≡ structure c.in-Struct.field-0 (forms_of c.deref-in-Struct.result.now) = rw (c.node.ensures, c.in-Struct.is, c.deref-in-Struct.ensures.value) refl in
    let i = get_or c.args.indices.now 0 none in
    ap (λ (f : Form). offset_in f c.args.indices.now) shape
    ∙ ap (offset_in (structure c.in-Struct.field-0 (forms_of c.deref-in-Struct.result.now))) (first_and_rest c.args.indices.now none c.in-len1-up.len_at_least)
    ∙ part_offset c.in-Struct.field-0 (forms_of c.deref-in-Struct.result.now) i _ c.in-Some.part.now c.in-Some.ensures.part
    ∙ ap (plus (place c.in-Struct.field-0 0 (forms_of c.deref-in-Struct.result.now) i.bits)) c.in_ok-inner-in-Struct.ensures
    ∙ ap (λ (n : ℕ). Ok ((n + c.in_ok-inner-in-Struct.inner) % 2 ^ 64)) (sym (c.offset_of-begin.ensures ∙ ap (λ (f : Form). offset f i.bits) shape))

pub returns-in_err-inner-in-Struct : goal.returns-in_err-inner-in-Struct
returns-in_err-inner-in-Struct t c =
    let e : Failure Fault = c.in_err-inner-in-Struct.field-0.0 in
    let p = err_from_is_err_and c.from_residual-in_err-inner-in-Struct.result c.from_residual-in_err-inner-in-Struct.ensures.1 in
    let shape : c.args.shape.now ≡ structure c.in-Struct.field-0 (forms_of c.deref-in-Struct.result.now) = rw (c.node.ensures, c.in-Struct.is, c.deref-in-Struct.ensures.value) refl in
    let i = get_or c.args.indices.now 0 none in
    fails_too {V = ℕ} (λ n. n) (λ n. n) c.from_residual-in_err-inner-in-Struct.result e _ _ (p.1 ∙ ap (λ (x : Failure Fault). Err x) p.2) c.in_err-inner-in-Struct.ensures
    (λ d h.
    ap (λ (f : Form). offset_in f c.args.indices.now) shape
    ∙ ap (offset_in (structure c.in-Struct.field-0 (forms_of c.deref-in-Struct.result.now))) (first_and_rest c.args.indices.now none c.in-len1-up.len_at_least)
    ∙ part_offset c.in-Struct.field-0 (forms_of c.deref-in-Struct.result.now) i _ c.in-Some.part.now c.in-Some.ensures.part
    ∙ ap (plus (place c.in-Struct.field-0 0 (forms_of c.deref-in-Struct.result.now) i.bits)) h)

pub offset_in-requires-in-Struct : goal.offset_in-requires-in-Struct
offset_in-requires-in-Struct t c = (omega (arith, c.decreases, rest_shorter c.args.indices.now c.in-len1-up.len_at_least), c.in-Some.ensures.laid)
