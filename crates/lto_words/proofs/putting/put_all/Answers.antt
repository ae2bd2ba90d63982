use Rattle.std.proofs.Common.{◌<◌, ℕ, List, [], ◌∷◌, arith, false, length, subst, true}
use Rattle.lto_outside.specs.Calls.{Put}
use Rattle.lto_words.proofs.InARow.{link_put, link_unput}
use Rattle.lto_words.proofs.putting.put_all.Goals as goal

pub returns-in-Err-clause-failed : goal.returns-in-Err-clause-failed
returns-in-Err-clause-failed g c =
    let within : c.loop-at.at < length c.args.texts.now = omega (arith, c.loop-at-test.true, c.requires) in
    link_unput g.F.Files.did g.met.F.Files.did_more c.args.files.now c.loop-at.files c.put.new.self c.args.links.now c.args.texts.now c.loop-at.at c.index-links-at.result c.index-texts-at.result
    c.loop-at-test.true within c.index-links-at.is c.index-texts-at.is c.loop-at.invariant.calls
    (subst (λ (n : List ℕ). g.F.Files.did c.loop-at.files (Put n c.index-texts-at.result false ∷ []) c.put.new.self) c.as_str.ensures
    (subst (λ (t : List ℕ). g.F.Files.did c.loop-at.files (Put c.as_str.result.now t false ∷ []) c.put.new.self) c.as_slice.ensures c.in-Err.ensures.call))

pub loop-at-preserved : goal.loop-at-preserved
loop-at-preserved g c =
    let within : c.loop-at.at < length c.args.texts.now = omega (arith, c.loop-at-test.true, c.requires) in
    record {
      calls =
          link_put g.F.Files.did g.met.F.Files.did_more c.args.files.now c.loop-at.files c.put.new.self c.args.links.now c.args.texts.now c.loop-at.at c.index-links-at.result c.index-texts-at.result
          c.loop-at-test.true within c.index-links-at.is c.index-texts-at.is c.loop-at.invariant.calls
          (subst (λ (n : List ℕ). g.F.Files.did c.loop-at.files (Put n c.index-texts-at.result true ∷ []) c.put.new.self) c.as_str.ensures
          (subst (λ (t : List ℕ). g.F.Files.did c.loop-at.files (Put c.as_str.result.now t true ∷ []) c.put.new.self) c.as_slice.ensures c.in-Ok.ensures.call));
      later = omega (arith, c.loop-at.invariant.later, c.in-Ok.ensures.later);
    }

pub loop-at-init : goal.loop-at-init
loop-at-init g c = record { calls = g.met.F.Files.did_none c.args.files.now; later = omega arith }

pub returns-in-Err-clause-put : goal.returns-in-Err-clause-put
returns-in-Err-clause-put g c = tt

pub returns-clause-failed : goal.returns-clause-failed
returns-clause-failed g c = tt

pub returns-clause-within : goal.returns-clause-within
returns-clause-within g c = tt

pub returns-clause-rose : goal.returns-clause-rose
returns-clause-rose g c = tt

pub returns-in-Err-clause-within : goal.returns-in-Err-clause-within
returns-in-Err-clause-within g c = c.loop-at-test.true

pub returns-in-Err-clause-rose : goal.returns-in-Err-clause-rose
returns-in-Err-clause-rose g c = omega (arith, c.loop-at.invariant.later, c.in-Err.ensures.cause)

pub returns-in-Err-clause-later : goal.returns-in-Err-clause-later
returns-in-Err-clause-later g c = omega (arith, c.loop-at.invariant.later, c.in-Err.ensures.later)

pub returns-clause-later : goal.returns-clause-later
returns-clause-later g c = c.loop-at.invariant.later
