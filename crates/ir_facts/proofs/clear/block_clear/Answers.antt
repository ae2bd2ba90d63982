use Rattle.std.proofs.Common.{List, nat_eq, ◌∙◌, ap}
use Rattle.std.specs.BTreeMap.{get}
use Rattle.std.specs.HashSet.{contains}
use Rattle.std.specs.Ordering.{nat_cmp}
use Rattle.ir_tree.specs.declared.instr.Phi.{Phi}
use Rattle.ir_facts.specs.Candidates.{phi_candidates}
use Rattle.ir_facts.specs.Clear.{any_among, phis_barred}
use Rattle.ir_facts.specs.Scopes.{bars}
use Rattle.ir_facts.proofs.Clearing.{block_is}
use Rattle.ir_facts.proofs.clear.block_clear.Goals as goal

pub returns : goal.returns
returns c =
    let scopes = c.args.bar.now.scopes.now in
    let own = contains nat_eq c.in_ok-own.own in
    let place = get nat_cmp scopes.numbers in
    block_is (bars scopes) place c.args.bar.now.place own c.args.block.now c.in_ok-own.ensures c.in_ok-sourced.sourced c.phis_barred-taken.result c.end_names-read.result
    c.in_ok-clear.clear c.is_free-free.result c.is_free-free.ensures (c.in_ok-sourced.ensures ∙ ap (λ (ps : List Phi). any_among own (phi_candidates ps ps)) c.as_slice.ensures)
    (c.phis_barred-taken.ensures ∙ ap (phis_barred (bars scopes) place) c.as_slice-2.ensures) c.end_names-read.ensures c.in_ok-clear.ensures
