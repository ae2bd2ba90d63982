use Rattle.std.proofs.Common.{ℕ, List, [], ◌∷◌, length, ap, arith, length-append, subst, sym}
use Rattle.std.specs.Prelude.{All}
use Rattle.std.proofs.lemmas.List.{take_all}
use Rattle.std.proofs.lemmas.List.Elements.{All-nil, All-push}
use Rattle.lto_outside.specs.Cause.{Rose}
use Rattle.lto_words.specs.Fetching.{FetchFailed, IsShort, fetch_calls}
use Rattle.lto_words.proofs.Fetches.{if_fault_map, no_put_more, no_put_none, one_failed, one_more, one_stopped}
use Rattle.lto_words.proofs.fetching.fetch_all.Goals as goal

pub returns-in-Err-clause-failed : goal.returns-in-Err-clause-failed
returns-in-Err-clause-failed g c =
    if_fault_map c.in-Err.error _ _ (λ told h.
    let rose : Rose (g.F.Files.faults c.args.files.now) (g.F.Files.faults c.fetch_one.new.files) = omega (arith, h.2, c.loop-name.invariant.later) in (
      subst (λ (n : List ℕ). FetchFailed (λ calls. g.F.Files.did c.args.files.now calls c.fetch_one.new.files) c.args.names.now n) (sym h.0)
          (one_failed g.F.Files.did g.met.F.Files.did_more c.args.files.now c.loop-name.files c.fetch_one.new.files c.args.names.now c.loop-name.name-index c.name-item.result c.loop-name.given
          c.loop-name.invariant.each c.loop-name-test.true c.name-item.is c.loop-name.invariant.calls h.1),
      rose,
    )) c.in-Err.ensures.failed

pub returns-in-Err-clause-stopped : goal.returns-in-Err-clause-stopped
returns-in-Err-clause-stopped g c =
    one_stopped g.F.Files.did g.met.F.Files.did_more c.args.files.now c.loop-name.files c.fetch_one.new.files c.args.names.now c.loop-name.name-index c.name-item.result c.loop-name.given
    c.loop-name.invariant.each c.loop-name-test.true c.name-item.is c.loop-name.invariant.calls c.fetch_one.ensures.tried

pub returns-in_default-clause-stopped : goal.returns-in_default-clause-stopped
returns-in_default-clause-stopped g c =
    one_stopped g.F.Files.did g.met.F.Files.did_more c.args.files.now c.loop-name.files c.fetch_one.new.files c.args.names.now c.loop-name.name-index c.name-item.result c.loop-name.given
    c.loop-name.invariant.each c.loop-name-test.true c.name-item.is c.loop-name.invariant.calls c.fetch_one.ensures.tried

pub returns-in-Err-clause-no_put : goal.returns-in-Err-clause-no_put
returns-in-Err-clause-no_put g c =
    no_put_more g.F.Files.did g.met.F.Files.did_more c.args.files.now c.loop-name.files c.fetch_one.new.files c.loop-name.invariant.no_put c.fetch_one.ensures.no_put

pub returns-in_default-clause-no_put : goal.returns-in_default-clause-no_put
returns-in_default-clause-no_put g c =
    no_put_more g.F.Files.did g.met.F.Files.did_more c.args.files.now c.loop-name.files c.fetch_one.new.files c.loop-name.invariant.no_put c.fetch_one.ensures.no_put

pub loop-name-preserved : goal.loop-name-preserved
loop-name-preserved g c = record {
  calls =
      one_more g.F.Files.did g.met.F.Files.did_more c.args.files.now c.loop-name.files c.fetch_one.new.files c.args.names.now c.loop-name.name-index c.name-item.result c.loop-name.given
      c.push.new.self c.in-Ok.bytes c.in-Ok-push.ensures.ok c.loop-name.invariant.each c.loop-name-test.true c.name-item.is c.loop-name.invariant.calls c.in-Ok.ensures.fetched;
  each = omega (arith, ap length c.in-Ok-push.ensures.ok, length-append c.loop-name.given (c.in-Ok.bytes ∷ []), c.loop-name.invariant.each);
  short = subst (All IsShort) (sym c.in-Ok-push.ensures.ok) (All-push IsShort c.loop-name.given c.in-Ok.bytes c.loop-name.invariant.short c.in-Ok.ensures.short);
  no_put = no_put_more g.F.Files.did g.met.F.Files.did_more c.args.files.now c.loop-name.files c.fetch_one.new.files c.loop-name.invariant.no_put c.fetch_one.ensures.no_put;
  later = omega (arith, c.loop-name.invariant.later, c.fetch_one.ensures.later);
}

pub loop-name-init : goal.loop-name-init
loop-name-init g c = record {
  calls = g.met.F.Files.did_none c.args.files.now;
  each = ap length c.new-given.ensures;
  short = subst (All IsShort) (sym c.new-given.ensures) (All-nil IsShort);
  no_put = no_put_none g.F.Files.did c.args.files.now (g.met.F.Files.did_none c.args.files.now);
  later = omega arith;
}

pub returns-in-Err-clause-fetched : goal.returns-in-Err-clause-fetched
returns-in-Err-clause-fetched g c = tt

pub returns-in-Err-clause-each : goal.returns-in-Err-clause-each
returns-in-Err-clause-each g c = tt

pub returns-in-Err-clause-short : goal.returns-in-Err-clause-short
returns-in-Err-clause-short g c = tt

pub returns-in_default-clause-fetched : goal.returns-in_default-clause-fetched
returns-in_default-clause-fetched g c = tt

pub returns-in_default-clause-each : goal.returns-in_default-clause-each
returns-in_default-clause-each g c = tt

pub returns-in_default-clause-short : goal.returns-in_default-clause-short
returns-in_default-clause-short g c = tt

pub returns-in_default-clause-failed : goal.returns-in_default-clause-failed
returns-in_default-clause-failed g c = tt

pub returns-clause-failed : goal.returns-clause-failed
returns-clause-failed g c = tt

pub returns-clause-stopped : goal.returns-clause-stopped
returns-clause-stopped g c = tt

pub returns-in-Err-clause-later : goal.returns-in-Err-clause-later
returns-in-Err-clause-later g c = omega (arith, c.loop-name.invariant.later, c.fetch_one.ensures.later)

pub returns-in_default-clause-later : goal.returns-in_default-clause-later
returns-in_default-clause-later g c = omega (arith, c.loop-name.invariant.later, c.fetch_one.ensures.later)

pub returns-clause-fetched : goal.returns-clause-fetched
returns-clause-fetched g c =
    let all = take_all c.loop-name.name-index c.args.names.now (omega (arith, c.loop-name-test.false)) in
    subst (λ (names : List (List ℕ)). g.F.Files.did c.args.files.now (fetch_calls names c.loop-name.given) c.loop-name.files) all c.loop-name.invariant.calls

pub returns-clause-short : goal.returns-clause-short
returns-clause-short g c = c.loop-name.invariant.short

pub returns-clause-no_put : goal.returns-clause-no_put
returns-clause-no_put g c = c.loop-name.invariant.no_put

pub returns-clause-later : goal.returns-clause-later
returns-clause-later g c = c.loop-name.invariant.later
