use Rattle.std.proofs.Common.{◌≡◌, ◌∙◌, ap, codes, sym, subst, List}
use Rattle.ir_tree.specs.declared.module.GlobalValue.{GlobalValue}
use Rattle.ir_meaning.specs.Runnable.{AreRunnable}
use Rattle.merge_meaning.specs.Given.{merged_in}
use Rattle.merge_meaning.specs.Merged.{merged_globals, with_host}
use Rattle.merge_meaning.proofs.Tabled.{merged_kept}
use Rattle.merge_meaning.proofs.Runs.{merged_runs}
use Rattle.merge_meaning.proofs.merging.program.Goals as goal

pub returns : goal.returns
returns c =
    let is : c.add_host-2.new.rows ≡ merged_globals c.args.modules.now =
    c.in_ok-add_host-2.ensures
    ∙ ap (λ (gs : List GlobalValue). with_host (codes "getchar") gs) (c.in_ok-add_host.ensures
    ∙ ap (λ (gs : List GlobalValue). with_host (codes "putchar") gs)
    (c.in_ok-rows.ensures ∙ c.in_ok-marked.ensures.rows ∙ ap (λ table. merged_in table 0 c.args.modules.now) c.requires ∙ merged_kept c.args.modules.now)) in
    record {
      merged = is;
      runnable = subst (λ (gs : List GlobalValue). AreRunnable gs) (sym is) (merged_runs c.args.modules.now c.in_ok-marked.ensures.verified);
    }
