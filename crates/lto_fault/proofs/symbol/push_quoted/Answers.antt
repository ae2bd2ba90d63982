use Rattle.std.proofs.Common.{◌≡◌, ℕ, Bool, true, false, List, [], ◌∷◌, ◌++◌, ◌∙◌, sym, subst, cond}
use Rattle.ir_tree.specs.Names.{escaped, is_bare, quoted}
use Rattle.lto_outside.specs.Seen.{stream_seen}
use Rattle.lto_fault.specs.Pushing.{Pushes}
use Rattle.lto_fault.proofs.Pushing.{first_stopped, then_part}
use Rattle.lto_fault.proofs.symbol.push_quoted.Goals as goal

quoted_if : (name : List ℕ) (b : Bool) → is_bare name ≡ b → quoted name ≡ cond b name (34 ∷ (escaped name ++ 34 ∷ []))
unfolding quoted
quoted_if name b e = λ i. cond (e i) name (34 ∷ (escaped name ++ 34 ∷ []))

pub returns-then-is_bare-clause-pushed : goal.returns-then-is_bare-clause-pushed
returns-then-is_bare-clause-pushed g c =
    subst (λ (l : List ℕ). Pushes (stream_seen g.N.ByteOut.sent g.N.ByteOut.faults c.args.out.now c.push_all.new.out) l c.push_all.result)
    (sym (quoted_if c.args.name.now true (sym c.is_bare.ensures ∙ c.if-is_bare.true))) c.push_all.ensures.pushed

pub returns-then-not-push_all-clause-pushed : goal.returns-then-not-push_all-clause-pushed
returns-then-not-push_all-clause-pushed g c =
    subst (λ (l : List ℕ). Pushes (stream_seen g.N.ByteOut.sent g.N.ByteOut.faults c.args.out.now c.push_all-2.new.out) l false)
    (sym (quoted_if c.args.name.now false (sym c.is_bare.ensures ∙ c.if-is_bare.false)))
    (first_stopped g.N.ByteOut.sent g.N.ByteOut.faults c.args.out.now c.push_all-2.new.out c.push_all-2.new.out (34 ∷ []) (escaped c.args.name.now ++ 34 ∷ []) c.if-not-push_all.ensures.pushed)

pub returns-then-not-push_escaped-clause-pushed : goal.returns-then-not-push_escaped-clause-pushed
returns-then-not-push_escaped-clause-pushed g c =
    subst (λ (l : List ℕ). Pushes (stream_seen g.N.ByteOut.sent g.N.ByteOut.faults c.args.out.now c.push_escaped.new.out) l false)
    (sym (quoted_if c.args.name.now false (sym c.is_bare.ensures ∙ c.if-is_bare.false)))
    (then_part g.N.ByteOut.sent g.N.ByteOut.faults c.args.out.now c.push_all-2.new.out c.push_escaped.new.out (34 ∷ []) (escaped c.args.name.now ++ 34 ∷ []) false c.if-not-push_all.ensures.pushed c.push_all-2.ensures.later
    (first_stopped g.N.ByteOut.sent g.N.ByteOut.faults c.push_all-2.new.out c.push_escaped.new.out c.push_escaped.new.out (escaped c.args.name.now) (34 ∷ []) c.if-not-push_escaped.ensures.pushed))

pub returns-clause-pushed : goal.returns-clause-pushed
returns-clause-pushed g c =
    subst (λ (l : List ℕ). Pushes (stream_seen g.N.ByteOut.sent g.N.ByteOut.faults c.args.out.now c.push_all-3.new.out) l c.push_all-3.result)
    (sym (quoted_if c.args.name.now false (sym c.is_bare.ensures ∙ c.if-is_bare.false)))
    (then_part g.N.ByteOut.sent g.N.ByteOut.faults c.args.out.now c.push_all-2.new.out c.push_all-3.new.out (34 ∷ []) (escaped c.args.name.now ++ 34 ∷ []) c.push_all-3.result c.if-not-push_all.ensures.pushed c.push_all-2.ensures.later
    (then_part g.N.ByteOut.sent g.N.ByteOut.faults c.push_all-2.new.out c.push_escaped.new.out c.push_all-3.new.out (escaped c.args.name.now) (34 ∷ []) c.push_all-3.result c.if-not-push_escaped.ensures.pushed c.push_escaped.ensures.later c.push_all-3.ensures.pushed))
