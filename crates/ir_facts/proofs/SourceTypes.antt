-- What takes a local's place has the local's type.
use Rattle.std.proofs.Common.{◌≡◌, ℕ, suc, ◌+◌, nat_eq, inl, inr, true, List, [], ◌∷◌, ◌++◌, Option, Some, None, map, refl, sym, ◌∙◌, ap, subst, arith}
use Rattle.std.specs.Prelude.{All}
use Rattle.std.specs.List.{cons_option}
use Rattle.std.proofs.lemmas.Bool.{eqb-true, false≢true, or_cases}
use Rattle.std.proofs.lemmas.List.Elements.{All-head, All-tail}
use Rattle.std.proofs.lemmas.List.Folds.{list_any-append}
use Rattle.ir_tree.specs.Flow.{holds, phi_locals, results}
use Rattle.ir_tree.specs.Formed.{ArgumentFormed, ItemFormed}
use Rattle.ir_tree.specs.Items.{Item, phi_item, line_item, end_item, block_items, items, lines_from, operands, taken_as, typed}
use Rattle.ir_tree.specs.Rules.{CastsRight, HasType, KindTypes, Sound, typing, typings}
use Rattle.ir_tree.specs.declared.function.Function.{Function}
use Rattle.ir_tree.specs.declared.instr.Incoming.{Incoming}
use Rattle.ir_tree.specs.declared.instr.Line.{Line}
use Rattle.ir_tree.specs.declared.instr.Phi.{Phi}
use Rattle.ir_tree.specs.declared.operand.Operand.{Operand}
use Rattle.ir_tree.specs.declared.operand.Operand.TheVariants.{Local, Null, Number as Constant, Poison as PoisonOf, Symbol as Named}
use Rattle.ir_tree.specs.declared.operand.Reg.{Reg}
use Rattle.ir_tree.specs.declared.rule.Rule.TheVariants.{Cast as CastRule, TypeMismatch}
use Rattle.ir_edit.specs.Substituted.{operand_replaced, or_local, replacement}
use Rattle.ir_facts.specs.Candidates.{candidates}
use Rattle.ir_facts.proofs.Covering.{all_back, all_front, blocks_items}
use Rattle.ir_facts.proofs.Lookups.{LineTyped, LinesTyped, PhisTyped, types_of_block}
use Rattle.ir_facts.proofs.Matching.{has_site, matched, site_of}
use Rattle.ir_facts.proofs.RightSources.{IsTaken, LineSource, LineSources, PhiSources}
use Rattle.ir_facts.proofs.RuleTypes.{IsSoundInstr, Typed, row_typed}
use Rattle.ir_facts.proofs.Standing.{phi_sources_right}

module _ (f : Function) where
  record IsTypedItem (item : Item) : Type 0 where
    formed : ItemFormed f item
    types : All (HasType f) (operands item) × KindTypes f item
    casts : CastsRight item

  abbrev has : ℕ → Option Reg
  has x = typing (typings f) x

  line_source_typed : (c : ℕ → Option Operand) (n j : ℕ) (ls : List Line) → All IsTypedItem (lines_from n j ls) → LineSources c ls → LinesTyped has ls
      → (x : ℕ) (v : Operand) (t : Reg) → holds (results ls) x ≡ true → c x ≡ Some v → has x ≡ Some t → Typed f t v
  line_source_typed c n j [] all own types x v t h is q = absurd (false≢true h)
  line_source_typed c n j (l ∷ ls) all own types x v t h is q =
      by l.local refl own.0 types.0 h (λ g. line_source_typed c n (suc j) ls (All-tail IsTypedItem (line_item n j l) (lines_from n (suc j) ls) all) own.1 types.1 x v t g is q)
    where
      item : IsTypedItem (line_item n j l)
      item = All-head IsTypedItem (line_item n j l) (lines_from n (suc j) ls) all

      right : IsSoundInstr f l.local l.instr
      right = record { types = item.types.0; formed = item.formed.operands; kind = item.formed.kind.0; arms = item.types.1; casts = item.casts }

      by : (o : Option ℕ) → l.local ≡ o → LineSource c o l.instr → LineTyped has o l.instr → holds (cons_option o (results ls)) x ≡ true → (holds (results ls) x ≡ true → Typed f t v) → Typed f t v
      by None e line type' g later = later g
      by (Some y) e line type' g later =
          elim (or_cases (nat_eq x y) (holds (results ls) x) g) [
            | inl s ↦ (let same : x ≡ y = eqb-true x y s in
                row_typed f l.local l.instr right v (line v (ap c (sym same) ∙ is)).0 t (sym type' ∙ ap has (sym same) ∙ q))
            | inr more ↦ later more
          ]

  taken_typed : (reg : Reg) (es : List Incoming) (v : Operand) → IsTaken v es → All (HasType f) (taken_as reg es) → All (ArgumentFormed f) (taken_as reg es) → Typed f reg v
  taken_typed reg [] v h types formed = absurd h
  taken_typed reg (e ∷ es) v (inl same) types formed =
      subst (Typed f reg) same (All-head (HasType f) (typed reg e.value) (taken_as reg es) types, (All-head (ArgumentFormed f) (typed reg e.value) (taken_as reg es) formed).1)
  taken_typed reg (e ∷ es) v (inr more) types formed =
      taken_typed reg es v more (All-tail (HasType f) (typed reg e.value) (taken_as reg es) types) (All-tail (ArgumentFormed f) (typed reg e.value) (taken_as reg es) formed)

  phi_source_typed : (c : ℕ → Option Operand) (n : ℕ) (whole ps : List Phi) → All IsTypedItem (map (phi_item n) ps) → PhiSources c whole ps → PhisTyped has ps
      → (x : ℕ) (v : Operand) (t : Reg) → holds (map (λ p. p.local) ps) x ≡ true → c x ≡ Some v → has x ≡ Some t → Typed f t v
  phi_source_typed c n whole [] all own types x v t h is q = absurd (false≢true h)
  phi_source_typed c n whole (p ∷ ps) all own types x v t h is q =
      elim (or_cases (nat_eq x p.local) (holds (map (λ r. r.local) ps) x) h) [
        | inl s ↦ here (eqb-true x p.local s)
        | inr more ↦ phi_source_typed c n whole ps (All-tail IsTypedItem (phi_item n p) (map (phi_item n) ps) all) own.1 types.1 x v t more is q
      ]
    where
      item : IsTypedItem (phi_item n p)
      item = All-head IsTypedItem (phi_item n p) (map (phi_item n) ps) all

      here : x ≡ p.local → Typed f t v
      here same =
          let one : ◌≡◌ {A = Option Reg} (Some p.reg) (Some t) = sym types.0 ∙ ap has (sym same) ∙ q in
          let reg : p.reg ≡ t = cc one in
          subst (λ (r : Reg). Typed f r v) reg (taken_typed p.reg p.incoming v (own.0 v (ap c (sym same) ∙ is)).1 item.types.0 item.formed.operands)

  module _ (sound : Sound f) where
    each_typed : All IsTypedItem (items f)
    each_typed = λ i d lt. record { formed = sound.formed.items i d lt; types = sound.rules TypeMismatch i d lt; casts = sound.rules CastRule i d lt }

    pub source_typed : (x : ℕ) (v : Operand) (t : Reg) → replacement (candidates f) x ≡ Some v → has x ≡ Some t → Typed f t v
    source_typed x v t is q =
        let site = site_of f sound.formed.once f.blocks x (has_site f sound.formed.once x v is).0 in
        let b = site.1 in
        let here : 0 + site.0 ≡ site.0 = omega arith in
        let all = subst (λ (n : ℕ). All IsTypedItem (block_items n b)) here (blocks_items f IsTypedItem 0 f.blocks each_typed site.0 b site.2) in
        let rest = all_back IsTypedItem (map (phi_item site.0) b.phis) (lines_from site.0 0 b.lines ++ end_item site.0 b.end ∷ []) all in
        let own = matched f sound.formed.once phi_sources_right site.0 b site.2 in
        let types = types_of_block f sound.formed.once site.0 b site.2 in
        elim (or_cases (holds (phi_locals b) x) (holds (results b.lines) x) (sym (list_any-append (nat_eq x) (phi_locals b) (results b.lines)) ∙ site.3)) [
          | inl phi ↦
              phi_source_typed (replacement (candidates f)) site.0 b.phis b.phis (all_front IsTypedItem (map (phi_item site.0) b.phis) (lines_from site.0 0 b.lines ++ end_item site.0 b.end ∷ []) all) own.0 types.0 x v t phi is q
          | inr line ↦
              line_source_typed (replacement (candidates f)) site.0 0 b.lines (all_front IsTypedItem (lines_from site.0 0 b.lines) (end_item site.0 b.end ∷ []) rest) own.1 types.1 x v t line is q
        ]

    -- each operand, after its replacement
    pub operand_typed : (o : Operand) (t : Reg) → Typed f t o → Typed f t (operand_replaced (replacement (candidates f)) o)
    operand_typed (Local x) t h = by (replacement (candidates f) x) refl
      where
        by : (o : Option Operand) → replacement (candidates f) x ≡ o → Typed f t (or_local o x)
        by None q = h
        by (Some v) q = source_typed x v t q h.0
    operand_typed (Constant w n) t h = h
    operand_typed Null t h = h
    operand_typed (PoisonOf reg) t h = h
    operand_typed (Named s i) t h = h
