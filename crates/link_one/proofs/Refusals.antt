-- No bytes are refused on two lines, or for two kinds.
use Rattle.std.proofs.Common.{◌≡◌, ◌∙◌, ℕ, zero, suc, List, refl, ap, sym, subst, inl, inr, arith}
use Rattle.ir_tree.specs.declared.module.Module.{Module}
use Rattle.ir_tree.specs.declared.rule.Rule.{Rule}
use Rattle.ir_tree.specs.declared.rule.Rule.TheVariants as rule
use Rattle.ir_parse.specs.Laws.{Apart, OneFault, OneReading}
use Rattle.ir_verify.specs.Faults.{number}
use Rattle.ir_verify.specs.Modules.{IsLeastFault}
use Rattle.ir_verify.specs.Orders.{IsBefore}
use Rattle.ir_verify.specs.declared.fault.VerifyFault.{VerifyFault}
use Rattle.lto_fault.specs.declared.kind.RefusalKind.{RefusalKind}
use Rattle.lto_fault.specs.declared.kind.RefusalKind.TheVariants.{Unread, Unsound}
use Rattle.link_one.specs.Accepted.{IsUnread, IsUnsound, Refuses}

-- ---- a rule has a number of its own

abbrev rule_at : ℕ → Rule
rule_at (suc zero) = rule.TypeMismatch
rule_at (suc (suc zero)) = rule.NotAvailable
rule_at (suc (suc (suc zero))) = rule.PhiEdges
rule_at (suc (suc (suc (suc zero)))) = rule.PhiPlace
rule_at (suc (suc (suc (suc (suc zero))))) = rule.EntryBranch
rule_at (suc (suc (suc (suc (suc (suc zero)))))) = rule.Index
rule_at (suc (suc (suc (suc (suc (suc (suc zero))))))) = rule.Cast
rule_at _ = rule.CaseTwice

at_number : (r : Rule) → rule_at (number r) ≡ r
at_number rule.TypeMismatch = refl
at_number rule.NotAvailable = refl
at_number rule.PhiEdges = refl
at_number rule.PhiPlace = refl
at_number rule.EntryBranch = refl
at_number rule.Index = refl
at_number rule.Cast = refl
at_number rule.CaseTwice = refl

own_number : (r s : Rule) → number r ≡ number s → r ≡ s
own_number r s e = sym (at_number r) ∙ ap rule_at e ∙ at_number s

-- ---- the least fault is one

before_both : (d e : VerifyFault) → IsBefore d e.line e.kind → IsBefore e d.line d.kind → (d.line ≡ e.line) × (number d.kind ≡ number e.kind)
before_both d e (inl a) (inl b) = absurd (omega (arith, a, b))
before_both d e (inl a) (inr b) = absurd (omega (arith, a, b.0))
before_both d e (inr a) (inl b) = absurd (omega (arith, a.0, b))
before_both d e (inr a) (inr b) = (a.0, omega (arith, a.1, b.1))

unsound_once : OneReading → (bytes : List ℕ) (line other : ℕ) (kind another : RefusalKind) → IsUnsound bytes line kind → IsUnsound bytes other another → (line ≡ other) × (kind ≡ another)
unsound_once one_reading bytes line other kind another a b = same (before_both a.fault b.fault (a.least.least least.place b.fault.kind b.fault.line least.broken) (least.least a.least.place a.fault.kind a.fault.line a.least.broken))
  where
    one : (a.m ≡ b.m) × (a.lines ≡ b.lines)
    one = one_reading bytes a.m b.m a.lines b.lines a.reads b.reads

    least : IsLeastFault a.m.globals a.lines b.fault
    least =
        subst (λ (m : Module). IsLeastFault m.globals a.lines b.fault) (sym one.0)
        (subst (λ (ls : List (List ℕ)). IsLeastFault b.m.globals ls b.fault) (sym one.1) b.least)

    same : (a.fault.line ≡ b.fault.line) × (number a.fault.kind ≡ number b.fault.kind) → (line ≡ other) × (kind ≡ another)
    same (lines, kinds) = (a.place ∙ lines ∙ sym b.place, a.told ∙ ap Unsound (own_number a.fault.kind b.fault.kind kinds) ∙ sym b.told)

unread_once : OneFault → (bytes : List ℕ) (line other : ℕ) (kind another : RefusalKind) → IsUnread bytes line kind → IsUnread bytes other another → (line ≡ other) × (kind ≡ another)
unread_once one_fault bytes line other kind another a b = same (one_fault bytes line other a.fault b.fault a.first b.first)
  where
    same : (line ≡ other) × (a.fault ≡ b.fault) → (line ≡ other) × (kind ≡ another)
    same (lines, faults) = (lines, a.told ∙ ap Unread faults ∙ sym b.told)

pub refused_once : OneReading → Apart → OneFault → (bytes : List ℕ) (line other : ℕ) (kind another : RefusalKind) → Refuses bytes line kind → Refuses bytes other another
    → (line ≡ other) × (kind ≡ another)
refused_once one_reading apart one_fault bytes line other kind another (inl a) (inl b) = unread_once one_fault bytes line other kind another a b
refused_once one_reading apart one_fault bytes line other kind another (inl a) (inr b) = absurd (apart bytes b.m b.lines line a.fault b.reads a.first)
refused_once one_reading apart one_fault bytes line other kind another (inr a) (inl b) = absurd (apart bytes a.m a.lines other b.fault a.reads b.first)
refused_once one_reading apart one_fault bytes line other kind another (inr a) (inr b) = unsound_once one_reading bytes line other kind another a b
