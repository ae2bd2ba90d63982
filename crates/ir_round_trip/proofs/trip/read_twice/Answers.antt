use Rattle.std.proofs.Common.{◌≡◌, ◌∙◌, ℕ, List, ap, sym, subst, arith}
use Rattle.ir_parse.specs.Reading.{Reads}
use Rattle.ir_print.specs.Modules.{module_text}
use Rattle.ir_tree.specs.declared.module.Module.{Module}
use Rattle.ir_round_trip.proofs.Trips.{all_bytes}
use Rattle.ir_round_trip.proofs.trip.read_twice.Goals as goal

pub parsed_again-requires : goal.parsed_again-requires
parsed_again-requires c =
    let p = c.in_ok-module.module in
    let again = c.read_modules_are_read.ensures c.args.bytes.now p.0 p.1 (all_bytes c.args.bytes.now (λ i. omega (arith, c.type_inv.bytes i))) c.in_ok-module.ensures.found in
    let text : c.as_slice.result.now ≡ module_text p.0 = c.as_slice.ensures ∙ c.in_ok-text.ensures ∙ ap module_text c.module-2.ensures.module in
    (p.0, again.0, subst (λ (t : List ℕ). Reads t p.0 again.0) (sym text) again.1)

pub returns-clause-made : goal.returns-clause-made
returns-clause-made c =
    let p = c.in_ok-module.module in
    let again = c.read_modules_are_read.ensures c.args.bytes.now p.0 p.1 (all_bytes c.args.bytes.now (λ i. omega (arith, c.type_inv.bytes i))) c.in_ok-module.ensures.found in
    let printed : c.in_ok-text.text ≡ module_text p.0 = c.in_ok-text.ensures ∙ ap module_text c.module-2.ensures.module in
    let there : Reads c.in_ok-text.text p.0 again.0 = subst (λ (t : List ℕ). Reads t p.0 again.0) (sym printed) again.1 in
    let same = c.in_ok-again.ensures p.0 again.0 (subst (λ (t : List ℕ). Reads t p.0 again.0) (sym c.as_slice.ensures) there) in
    let lines : Reads c.in_ok-text.text p.0 c.in_ok-again.again.1 = subst (λ (ls : List (List ℕ)). Reads c.in_ok-text.text p.0 ls) (sym same.1) there in
    record {
      first = c.in_ok-module.ensures.found;
      text = printed;
      second = subst (λ (m : Module). Reads c.in_ok-text.text m c.in_ok-again.again.1) (sym same.0) lines;
      again = same.0;
    }
