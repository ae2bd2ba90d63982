use Rattle.std.proofs.Common.{◌≡◌, ℕ, List, [], arith, length, subst, sym}
use Rattle.std.specs.List.{AllZip}
use Rattle.std.proofs.lemmas.List.{take_all}
use Rattle.lto_outside.specs.Cause.{Rose}
use Rattle.lto_words.specs.Fetching.{FetchFailed, fetch_calls}
use Rattle.lto_words.specs.Links.{GivenFor, all_files, all_given}
use Rattle.lto_words.specs.declared.listing.ListedLink.{ListedLink}
use Rattle.lto_words.proofs.Fetches.{if_fault_map, no_put_more, no_put_none}
use Rattle.lto_words.proofs.InARow.{link_each, link_failed, link_fetched}
use Rattle.lto_words.proofs.linked.fetch_links.Goals as goal

pub returns-in-Err-clause-failed : goal.returns-in-Err-clause-failed
returns-in-Err-clause-failed g c =
    if_fault_map c.in-Err.error _ _ (λ told h.
    let rose : Rose (g.F.Files.faults c.args.files.now) (g.F.Files.faults c.fetch_all.new.files) = omega (arith, h.1, c.loop-link.invariant.later) in (
      link_failed g.F.Files.did g.met.F.Files.did_more c.args.files.now c.loop-link.files c.fetch_all.new.files c.args.links.now c.loop-link.link-index c.link-item.result c.loop-link.given told
          c.loop-link.invariant.each c.loop-link-test.true c.link-item.is c.loop-link.invariant.calls (subst (λ (l : List (List ℕ)). FetchFailed (λ calls. g.F.Files.did c.loop-link.files calls c.fetch_all.new.files) l told) c.as_slice.ensures h.0),
      rose,
    )) c.in-Err.ensures.failed

pub returns-in-Err-clause-no_put : goal.returns-in-Err-clause-no_put
returns-in-Err-clause-no_put g c =
    no_put_more g.F.Files.did g.met.F.Files.did_more c.args.files.now c.loop-link.files c.fetch_all.new.files c.loop-link.invariant.no_put c.fetch_all.ensures.no_put

pub returns-in_default-clause-no_put : goal.returns-in_default-clause-no_put
returns-in_default-clause-no_put g c =
    no_put_more g.F.Files.did g.met.F.Files.did_more c.args.files.now c.loop-link.files c.fetch_all.new.files c.loop-link.invariant.no_put c.fetch_all.ensures.no_put

pub loop-link-preserved : goal.loop-link-preserved
loop-link-preserved g c =
    let this : GivenFor c.link-item.result c.in-Ok.bytes = record { each = subst (λ (l : List (List ℕ)). length c.in-Ok.bytes ≡ length l) c.as_slice.ensures c.in-Ok.ensures.each; short = c.in-Ok.ensures.short } in
    record {
      calls =
          link_fetched g.F.Files.did g.met.F.Files.did_more c.args.files.now c.loop-link.files c.fetch_all.new.files c.args.links.now c.loop-link.link-index c.link-item.result c.loop-link.given
          c.push.new.self c.in-Ok.bytes c.in-Ok-push.ensures.ok c.loop-link.invariant.each c.loop-link-test.true c.link-item.is c.loop-link.invariant.calls
          (subst (λ (l : List (List ℕ)). g.F.Files.did c.loop-link.files (fetch_calls l c.in-Ok.bytes) c.fetch_all.new.files) c.as_slice.ensures c.in-Ok.ensures.fetched);
      each =
          link_each g.F.Files.did g.met.F.Files.did_more c.args.files.now c.loop-link.files c.fetch_all.new.files c.args.links.now c.loop-link.link-index c.link-item.result c.loop-link.given
          c.push.new.self c.in-Ok.bytes c.in-Ok-push.ensures.ok c.loop-link.invariant.each this c.loop-link-test.true c.link-item.is;
      no_put = no_put_more g.F.Files.did g.met.F.Files.did_more c.args.files.now c.loop-link.files c.fetch_all.new.files c.loop-link.invariant.no_put c.fetch_all.ensures.no_put;
      later = omega (arith, c.loop-link.invariant.later, c.fetch_all.ensures.later);
    }

pub loop-link-init : goal.loop-link-init
loop-link-init g c = record {
  calls = g.met.F.Files.did_none c.args.files.now;
  each = subst (AllZip GivenFor []) (sym c.new-given.ensures) tt;
  no_put = no_put_none g.F.Files.did c.args.files.now (g.met.F.Files.did_none c.args.files.now);
  later = omega arith;
}

pub returns-in-Err-clause-fetched : goal.returns-in-Err-clause-fetched
returns-in-Err-clause-fetched g c = tt

pub returns-in-Err-clause-each : goal.returns-in-Err-clause-each
returns-in-Err-clause-each g c = tt

pub returns-in_default-clause-fetched : goal.returns-in_default-clause-fetched
returns-in_default-clause-fetched g c = tt

pub returns-in_default-clause-each : goal.returns-in_default-clause-each
returns-in_default-clause-each g c = tt

pub returns-in_default-clause-failed : goal.returns-in_default-clause-failed
returns-in_default-clause-failed g c = tt

pub returns-clause-failed : goal.returns-clause-failed
returns-clause-failed g c = tt

pub returns-in-Err-clause-later : goal.returns-in-Err-clause-later
returns-in-Err-clause-later g c = omega (arith, c.loop-link.invariant.later, c.fetch_all.ensures.later)

pub returns-in_default-clause-later : goal.returns-in_default-clause-later
returns-in_default-clause-later g c = omega (arith, c.loop-link.invariant.later, c.fetch_all.ensures.later)

pub returns-clause-fetched : goal.returns-clause-fetched
returns-clause-fetched g c =
    let all = take_all c.loop-link.link-index c.args.links.now (omega (arith, c.loop-link-test.false)) in
    subst (λ (links : List ListedLink). g.F.Files.did c.args.files.now (fetch_calls (all_files links) (all_given c.loop-link.given)) c.loop-link.files) all c.loop-link.invariant.calls

pub returns-clause-each : goal.returns-clause-each
returns-clause-each g c =
    let all = take_all c.loop-link.link-index c.args.links.now (omega (arith, c.loop-link-test.false)) in
    subst (λ (links : List ListedLink). AllZip GivenFor links c.loop-link.given) all c.loop-link.invariant.each

pub returns-clause-no_put : goal.returns-clause-no_put
returns-clause-no_put g c = c.loop-link.invariant.no_put

pub returns-clause-later : goal.returns-clause-later
returns-clause-later g c = c.loop-link.invariant.later
