use Rattle.std.proofs.Common.{◌≡◌, ℕ, Bool, List, refl, ap, sym, ◌∙◌, subst}
use Rattle.lto_fault.specs.Texts.{refusal_text}
use Rattle.lto_fault.specs.declared.refusal.Refusal.{Refusal}
use Rattle.lto_outside.specs.Seen.{StreamSeen, stream_seen}
use Rattle.lto_fault.specs.Pushing.{Pushes}
use Rattle.lto_fault.proofs.Lines.{bad_arguments_line, name_taken_line, no_export_line}
use Rattle.lto_fault.proofs.line.push_refusal.Goals as goal

told : (stream : StreamSeen) (whole : Bool) (refusal other : Refusal) (text : List ℕ) → refusal ≡ other → refusal_text other ≡ text → Pushes stream text whole → Pushes stream (refusal_text refusal) whole
told stream whole refusal other text is line pushed = subst (λ (l : List ℕ). Pushes stream l whole) (sym (ap refusal_text is ∙ line)) pushed

pub returns-in-Usage-clause-pushed : goal.returns-in-Usage-clause-pushed
returns-in-Usage-clause-pushed g c = told (stream_seen g.N.ByteOut.sent g.N.ByteOut.faults c.args.out.now c.push_all.new.out) c.push_all.result _ _ _ c.in-Usage.is (refl) (c.push_all.ensures.pushed)

pub returns-in-ReadFault-clause-pushed : goal.returns-in-ReadFault-clause-pushed
returns-in-ReadFault-clause-pushed g c = told (stream_seen g.N.ByteOut.sent g.N.ByteOut.faults c.args.out.now c.push_file.new.out) c.push_file.result _ _ _ c.in-ReadFault.is refl c.push_file.ensures.pushed

pub returns-in-Refused-clause-pushed : goal.returns-in-Refused-clause-pushed
returns-in-Refused-clause-pushed g c = told (stream_seen g.N.ByteOut.sent g.N.ByteOut.faults c.args.out.now c.push_refused.new.out) c.push_refused.result _ _ _ c.in-Refused.is (refl) (c.push_refused.ensures.pushed)

pub returns-in-TargetClash-clause-pushed : goal.returns-in-TargetClash-clause-pushed
returns-in-TargetClash-clause-pushed g c = told (stream_seen g.N.ByteOut.sent g.N.ByteOut.faults c.args.out.now c.push_targets.new.out) c.push_targets.result _ _ _ c.in-TargetClash.is (refl) (c.push_targets.ensures.pushed)

pub returns-in-DuplicateSymbol-clause-pushed : goal.returns-in-DuplicateSymbol-clause-pushed
returns-in-DuplicateSymbol-clause-pushed g c = told (stream_seen g.N.ByteOut.sent g.N.ByteOut.faults c.args.out.now c.push_duplicate.new.out) c.push_duplicate.result _ _ _ c.in-DuplicateSymbol.is refl c.push_duplicate.ensures.pushed

pub returns-in-KindClash-clause-pushed : goal.returns-in-KindClash-clause-pushed
returns-in-KindClash-clause-pushed g c = told (stream_seen g.N.ByteOut.sent g.N.ByteOut.faults c.args.out.now c.push_kinds.new.out) c.push_kinds.result _ _ _ c.in-KindClash.is refl c.push_kinds.ensures.pushed

pub returns-in-UndefinedSymbol-clause-pushed : goal.returns-in-UndefinedSymbol-clause-pushed
returns-in-UndefinedSymbol-clause-pushed g c = told (stream_seen g.N.ByteOut.sent g.N.ByteOut.faults c.args.out.now c.push_unknown.new.out) c.push_unknown.result _ _ _ c.in-UndefinedSymbol.is refl c.push_unknown.ensures.pushed

pub returns-in-NoExport-clause-pushed : goal.returns-in-NoExport-clause-pushed
returns-in-NoExport-clause-pushed g c = told (stream_seen g.N.ByteOut.sent g.N.ByteOut.faults c.args.out.now c.push_symbol.new.out) c.push_symbol.result _ _ _ c.in-NoExport.is (no_export_line c.in-NoExport.name) (c.push_symbol.ensures.pushed)

pub returns-in-NameTaken-clause-pushed : goal.returns-in-NameTaken-clause-pushed
returns-in-NameTaken-clause-pushed g c = told (stream_seen g.N.ByteOut.sent g.N.ByteOut.faults c.args.out.now c.push_symbol-in-NameTaken.new.out) c.push_symbol-in-NameTaken.result _ _ _ c.in-NameTaken.is (name_taken_line c.in-NameTaken.name) (c.push_symbol-in-NameTaken.ensures.pushed)

pub returns-in-BadArguments-clause-pushed : goal.returns-in-BadArguments-clause-pushed
returns-in-BadArguments-clause-pushed g c = told (stream_seen g.N.ByteOut.sent g.N.ByteOut.faults c.args.out.now c.push_symbol-in-BadArguments.new.out) c.push_symbol-in-BadArguments.result _ _ _ c.in-BadArguments.is (bad_arguments_line c.in-BadArguments.name) (c.push_symbol-in-BadArguments.ensures.pushed)

pub returns-in-WriteFault-clause-pushed : goal.returns-in-WriteFault-clause-pushed
returns-in-WriteFault-clause-pushed g c = told (stream_seen g.N.ByteOut.sent g.N.ByteOut.faults c.args.out.now c.push_file-in-WriteFault.new.out) c.push_file-in-WriteFault.result _ _ _ c.in-WriteFault.is refl c.push_file-in-WriteFault.ensures.pushed

pub returns-in-NoMemory-clause-pushed : goal.returns-in-NoMemory-clause-pushed
returns-in-NoMemory-clause-pushed g c = told (stream_seen g.N.ByteOut.sent g.N.ByteOut.faults c.args.out.now c.push_all-in-NoMemory.new.out) c.push_all-in-NoMemory.result _ _ _ c.in-NoMemory.is (refl) (c.push_all-in-NoMemory.ensures.pushed)

pub returns-in-Undefined-clause-pushed : goal.returns-in-Undefined-clause-pushed
returns-in-Undefined-clause-pushed g c = told (stream_seen g.N.ByteOut.sent g.N.ByteOut.faults c.args.out.now c.push_undefined.new.out) c.push_undefined.result _ _ _ c.in-Undefined.is refl c.push_undefined.ensures.pushed

pub returns-in-Uninit-clause-pushed : goal.returns-in-Uninit-clause-pushed
returns-in-Uninit-clause-pushed g c = told (stream_seen g.N.ByteOut.sent g.N.ByteOut.faults c.args.out.now c.push_uninit.new.out) c.push_uninit.result _ _ _ c.in-Uninit.is refl c.push_uninit.ensures.pushed

pub returns-in-OutOfSteps-clause-pushed : goal.returns-in-OutOfSteps-clause-pushed
returns-in-OutOfSteps-clause-pushed g c = told (stream_seen g.N.ByteOut.sent g.N.ByteOut.faults c.args.out.now c.push_steps.new.out) c.push_steps.result _ _ _ c.in-OutOfSteps.is (refl) (c.push_steps.ensures.pushed)
