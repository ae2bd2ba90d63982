-- The candidates of a covered function may stand for its locals.
use Rattle.std.proofs.Common.{◌≡◌, ℕ, ◌<◌, nat_eq, ◌⊎◌, inl, inr, Bool, true, List, [], ◌∷◌, Option, Some, map, sym, ◌∙◌, ap, subst}
use Rattle.std.specs.Prelude.{slice_get}
use Rattle.std.proofs.lemmas.Bool.{eqb-true, false≢true, or_cases}
use Rattle.std.proofs.lemmas.List.Folds.{list_any-append}
use Rattle.ir_tree.specs.Flow.{definitions, holds, locals, phi_locals, results, room}
use Rattle.ir_tree.specs.declared.block.Block.{Block}
use Rattle.ir_tree.specs.declared.function.Function.{Function}
use Rattle.ir_tree.specs.declared.instr.Incoming.{Incoming}
use Rattle.ir_tree.specs.declared.instr.Phi.{Phi}
use Rattle.ir_tree.specs.declared.operand.Operand.{Operand}
use Rattle.ir_tree.specs.declared.operand.Operand.TheVariants.{Local}
use Rattle.ir_edit.specs.Substituted.{replacement}
use Rattle.ir_facts.specs.Candidates.{candidates}
use Rattle.ir_facts.proofs.Covers.{Covers, EdgesCovered, PhisCovered, TakenAt, closing, closing_is, opening}
use Rattle.ir_facts.proofs.Matching.{has_site, matched, site_of}
use Rattle.ir_facts.proofs.RightSources.{AreSources, IsTaken, LineSources, PhiSources}
use Rattle.ir_facts.proofs.Standing.{phi_sources_right}
use Rattle.ir_facts.proofs.Substituting.{defined_room, line_sourced}

module _ (r : ℕ → ℕ → Bool) (f : Function) (cov : Covers r f) where
  closing_room : (p : ℕ) (b : Block) (z : ℕ) → slice_get f.blocks p ≡ Some b → closing r p b z ≡ true → z < room (locals f)
  closing_room p b z e h =
      elim (or_cases (r p z) (holds (definitions b) z) h) [
        | inl g ↦ (cov.justified p z g).1
        | inr d ↦ defined_room f p b z e d
      ]

  taken_room : (es : List Incoming) (z : ℕ) → EdgesCovered r f es → IsTaken (Local z) es → z < room (locals f)
  taken_room [] z t h = absurd h
  taken_room (e ∷ es) z t (inl same) =
      let at : TakenAt r f e.from (Local z) = subst (λ (o : Operand). TakenAt r f e.from o) same t.0 in
      closing_room at.place at.block z at.found at.kept
  taken_room (e ∷ es) z t (inr more) = taken_room es z t.1 more

  phi_room : (c : ℕ → Option Operand) (all ps : List Phi) (x z : ℕ) → PhiSources c all ps → PhisCovered r f ps → holds (map (λ p. p.local) ps) x ≡ true → c x ≡ Some (Local z) → z < room (locals f)
  phi_room c all [] x z own t h is = absurd (false≢true h)
  phi_room c all (p ∷ ps) x z own t h is =
      elim (or_cases (nat_eq x p.local) (holds (map (λ q. q.local) ps) x) h) [
        | inl e ↦ taken_room p.incoming z t.0 (own.0 (Local z) (ap c (sym (eqb-true x p.local e)) ∙ is)).1
        | inr more ↦ phi_room c all ps x z own.1 t.1 more is
      ]

  pub are_sources : AreSources (replacement (candidates f)) f
  are_sources = record {
    lines = λ p b e. (match p b e).1;
    phis = λ p b e. (match p b e).0;
    params = λ x v e. (has_site f cov.once x v e).1;
    within = within;
  }
    where
      c : ℕ → Option Operand
      c = replacement (candidates f)

      match : (p : ℕ) (b : Block) → slice_get f.blocks p ≡ Some b → PhiSources (replacement (candidates f)) b.phis b.phis × LineSources (replacement (candidates f)) b.lines
      match = matched f cov.once phi_sources_right

      parts : (b : Block) (x : ℕ) → holds (definitions b) x ≡ true → (holds (phi_locals b) x ≡ true) ⊎ (holds (results b.lines) x ≡ true)
      parts b x h = or_cases (holds (phi_locals b) x) (holds (results b.lines) x) (sym (list_any-append (nat_eq x) (phi_locals b) (results b.lines)) ∙ h)

      within : (x z : ℕ) → replacement (candidates f) x ≡ Some (Local z) → z < room (locals f)
      within x z e =
          let site = site_of f cov.once f.blocks x (has_site f cov.once x (Local z) e).0 in
          let cover = cov.blocks site.0 site.1 site.2 in
          elim (parts site.1 x site.3) [
            | inl phi ↦ phi_room (replacement (candidates f)) site.1.phis site.1.phis x z (match site.0 site.1 site.2).0 cover.phis phi e
            | inr line ↦
                closing_room site.0 site.1 z site.2
                (sym (closing_is r site.0 site.1 z) ∙ line_sourced (replacement (candidates f)) site.1.lines (opening r site.0 site.1) x z cover.lines (match site.0 site.1 site.2).1 line e)
          ]
