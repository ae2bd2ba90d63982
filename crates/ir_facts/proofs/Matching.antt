-- Of a function each of whose locals is defined once, the candidates by number are those of its phis and instructions.
use Rattle.std.proofs.Common.{◌≡◌, ℕ, zero, suc, ◌+◌, ◌≤◌, nat_eq, ◌==◌, ◌⊎◌, inl, inr, Bool, true, false, List, [], ◌∷◌, ◌++◌, Option, Some, None, map, refl, sym, ◌∙◌, ap, subst, arith, if◌then◌else◌}
use Rattle.std.specs.Prelude.{slice_get, flat_map, not, ◌&&◌, ◌||◌}
use Rattle.std.specs.List.{cons_option}
use Rattle.std.proofs.lemmas.Bool.{cases_eq, eq-eqb, false≢true, ne_eqb, or_cases, or_left, or_right}
use Rattle.ir_tree.specs.Flow.{definitions, holds, locals, parameters, phi_locals, results}
use Rattle.ir_tree.specs.Formed.{Distinct, numbers}
use Rattle.ir_tree.specs.declared.block.Block.{Block}
use Rattle.ir_tree.specs.declared.function.Function.{Function}
use Rattle.ir_tree.specs.declared.instr.Incoming.{Incoming}
use Rattle.ir_tree.specs.declared.instr.Instr.{Instr}
use Rattle.ir_tree.specs.declared.instr.Line.{Line}
use Rattle.ir_tree.specs.declared.instr.Phi.{Phi}
use Rattle.ir_tree.specs.declared.operand.Operand.{Operand}
use Rattle.ir_meaning.specs.Table.{rule}
use Rattle.ir_meaning.specs.Facts.{Facts, is_local, is_phi_operand}
use Rattle.ir_edit.specs.Numbered.{later_or}
use Rattle.ir_edit.specs.Substituted.{replacement}
use Rattle.ir_edit.proofs.Tally.{tally, tally_both, tally_once}
use Rattle.ir_facts.specs.Candidates.{block_candidates, blocks_candidates, candidates, first_other, line_candidates, line_source, other_than, paired, phi_candidates, phi_source, result_candidate, sole_source, takes_only}
use Rattle.ir_facts.specs.SourceLaws.{IsPhiSource, PhiSourcesRight}
use Rattle.ir_facts.proofs.RightSources.{IsTaken, LineSource, LineSources, PhiSources}

-- ---- lists whose elements are counted

held_counted : (x : ℕ) (xs : List ℕ) → holds xs x ≡ true → 1 ≤ tally x xs
held_counted x [] h = absurd (false≢true h)
held_counted x (y ∷ ys) h = by (nat_eq x y) h (held_counted x ys)
  where
    by : (b : Bool) → (b || holds ys x) ≡ true → (holds ys x ≡ true → 1 ≤ tally x ys) → 1 ≤ (if b then 1 else 0) + tally x ys
    by true h' more = omega arith
    by false h' more = let rest : 1 ≤ tally x ys = more h' in omega (arith, rest)

-- a list's elements that stand once in both are in one alone
pub apart_right : (x : ℕ) (xs ys : List ℕ) → tally x (xs ++ ys) ≤ 1 → holds xs x ≡ true → holds ys x ≡ false
apart_right x xs ys one h = by (holds ys x) refl
  where
    by : (b : Bool) → holds ys x ≡ b → b ≡ false
    by false e = refl
    by true e =
        let a : 1 ≤ tally x xs = held_counted x xs h in
        let b : 1 ≤ tally x ys = held_counted x ys e in
        let all : tally x (xs ++ ys) ≡ tally x xs + tally x ys = tally_both x xs ys in
        absurd (omega (arith, a, b, all, one))

pub apart_left : (x : ℕ) (xs ys : List ℕ) → tally x (xs ++ ys) ≤ 1 → holds ys x ≡ true → holds xs x ≡ false
apart_left x xs ys one h = by (holds xs x) refl
  where
    by : (b : Bool) → holds xs x ≡ b → b ≡ false
    by false e = refl
    by true e =
        let a : 1 ≤ tally x xs = held_counted x xs e in
        let b : 1 ≤ tally x ys = held_counted x ys h in
        let all : tally x (xs ++ ys) ≡ tally x xs + tally x ys = tally_both x xs ys in
        absurd (omega (arith, a, b, all, one))

abbrev pub Once : List ℕ → Type 0
Once xs = (x : ℕ) → tally x xs ≤ 1

pub once_left : (xs ys : List ℕ) → Once (xs ++ ys) → Once xs
once_left xs ys once x = let all : tally x (xs ++ ys) ≡ tally x xs + tally x ys = tally_both x xs ys in omega (arith, all, once x)

pub once_right : (xs ys : List ℕ) → Once (xs ++ ys) → Once ys
once_right xs ys once x = let all : tally x (xs ++ ys) ≡ tally x xs + tally x ys = tally_both x xs ys in omega (arith, all, once x)

-- ---- candidates of parts

abbrev pub KeysIn : Facts → List ℕ → Type 0
KeysIn fs xs = (x : ℕ) → holds xs x ≡ false → replacement fs x ≡ None

-- for the locals of a part, c has what the part's candidates have
abbrev Agrees : (ℕ → Option Operand) → List ℕ → Facts → Type 0
Agrees c xs fs = (x : ℕ) → holds xs x ≡ true → c x ≡ replacement fs x

later_none : {A : Type 0} (o : Option A) → later_or o None ≡ o
later_none None = refl
later_none (Some a) = refl

later_moved : {A : Type 0} (a b d : Option A) → later_or (later_or a b) d ≡ later_or a (later_or b d)
later_moved (Some x) b d = refl
later_moved None b d = refl

both_parts : (as' bs : Facts) (x : ℕ) → replacement (as' ++ bs) x ≡ later_or (replacement bs x) (replacement as' x)
both_parts [] bs x = sym (later_none (replacement bs x))
both_parts (a ∷ as') bs x =
    ap (λ (o : Option Operand). later_or o (if a.0 == x then Some a.1 else None)) (both_parts as' bs x) ∙ later_moved (replacement bs x) (replacement as' x) (if a.0 == x then Some a.1 else None)

pub not_held : (x : ℕ) (xs ys : List ℕ) → holds (xs ++ ys) x ≡ false → (holds xs x ≡ false) × (holds ys x ≡ false)
not_held x [] ys h = (refl, h)
not_held x (z ∷ xs) ys h = by (nat_eq x z) h (not_held x xs ys)
  where
    by : (b : Bool) → (b || holds (xs ++ ys) x) ≡ false → (holds (xs ++ ys) x ≡ false → (holds xs x ≡ false) × (holds ys x ≡ false)) → ((b || holds xs x) ≡ false) × (holds ys x ≡ false)
    by true h' more = absurd (false≢true (sym h'))
    by false h' more = more h'

keys_both : (as' bs : Facts) (xs ys : List ℕ) → KeysIn as' xs → KeysIn bs ys → KeysIn (as' ++ bs) (xs ++ ys)
keys_both as' bs xs ys ka kb x h =
    let parts = not_held x xs ys h in
    both_parts as' bs x ∙ ap (λ (o : Option Operand). later_or o (replacement as' x)) (kb x parts.1) ∙ ka x parts.0

pub in_left : (x : ℕ) (xs ys : List ℕ) → holds xs x ≡ true → holds (xs ++ ys) x ≡ true
in_left x [] ys h = absurd (false≢true h)
in_left x (z ∷ xs) ys h =
    elim (or_cases (nat_eq x z) (holds xs x) h) [ inl a ↦ or_left (nat_eq x z) (holds (xs ++ ys) x) a | inr b ↦ or_right (nat_eq x z) (holds (xs ++ ys) x) (in_left x xs ys b) ]

pub in_right : (x : ℕ) (xs ys : List ℕ) → holds ys x ≡ true → holds (xs ++ ys) x ≡ true
in_right x [] ys h = h
in_right x (z ∷ xs) ys h = or_right (nat_eq x z) (holds (xs ++ ys) x) (in_right x xs ys h)

agrees_left : (c : ℕ → Option Operand) (as' bs : Facts) (xs ys : List ℕ) → KeysIn bs ys → Once (xs ++ ys) → Agrees c (xs ++ ys) (as' ++ bs) → Agrees c xs as'
agrees_left c as' bs xs ys kb once all x h =
    all x (in_left x xs ys h) ∙ both_parts as' bs x ∙ ap (λ (o : Option Operand). later_or o (replacement as' x)) (kb x (apart_right x xs ys (once x) h))

agrees_right : (c : ℕ → Option Operand) (as' bs : Facts) (xs ys : List ℕ) → KeysIn as' xs → Once (xs ++ ys) → Agrees c (xs ++ ys) (as' ++ bs) → Agrees c ys bs
agrees_right c as' bs xs ys ka once all x h =
    all x (in_right x xs ys h) ∙ both_parts as' bs x ∙ ap (later_or (replacement bs x)) (ka x (apart_left x xs ys (once x) h)) ∙ later_none (replacement bs x)

-- ---- one local

turned : (x y : ℕ) → nat_eq x y ≡ false → (y == x) ≡ false
turned x y h = elim (cases_eq y x) [ inl e ↦ absurd (false≢true (sym h ∙ eq-eqb x y (sym e))) | inr ne ↦ ne_eqb y x ne ]

keys_paired : (y : ℕ) (s : Option Operand) → KeysIn (paired y s) (y ∷ [])
keys_paired y None x h = refl
keys_paired y (Some v) x h = ap (λ (b : Bool). if b then Some v else None) (turned x y (by (nat_eq x y) h))
  where
    by : (b : Bool) → (b || false) ≡ false → b ≡ false
    by false h' = refl
    by true h' = h'

pair_is : (y : ℕ) (s : Option Operand) → replacement (paired y s) y ≡ s
pair_is y None = refl
pair_is y (Some v) = ap (λ (b : Bool). if b then Some v else None) (eq-eqb y y refl)

one_local : (c : ℕ → Option Operand) (y : ℕ) (s : Option Operand) → Agrees c (y ∷ []) (paired y s) → c y ≡ s
one_local c y s all = all y (or_left (nat_eq y y) false (eq-eqb y y refl)) ∙ pair_is y s

-- ---- phis

pub keys_phis : (all ps : List Phi) → KeysIn (phi_candidates all ps) (map (λ p. p.local) ps)
keys_phis all [] = λ x h. refl
keys_phis all (p ∷ ps) = keys_both (paired p.local (phi_source all p)) (phi_candidates all ps) (p.local ∷ []) (map (λ q. q.local) ps) (keys_paired p.local (phi_source all p)) (keys_phis all ps)

first_taken : (x : ℕ) (es : List Incoming) (v : Operand) → first_other x es ≡ Some v → IsTaken v es
first_taken x [] v e = absurd (cc e)
first_taken x (d ∷ es) v e = by (is_local x d.value) e (first_taken x es v)
  where
    by : (b : Bool) → (if b then first_other x es else Some d.value) ≡ Some v → (first_other x es ≡ Some v → IsTaken v es) → (d.value ≡ v) ⊎ IsTaken v es
    by true e' more = inr (more e')
    by false e' more = inl (cc e')

source_taken : (all : List Phi) (p : Phi) (v : Operand) → phi_source all p ≡ Some v → IsTaken v p.incoming
source_taken all p v e = by (first_other p.local p.incoming) refl e
  where
    chosen : (u : Operand) (b : Bool) → first_other p.local p.incoming ≡ Some u → (if b then Some u else None) ≡ Some v → IsTaken v p.incoming
    chosen u true q e' = first_taken p.local p.incoming v (q ∙ e')
    chosen u false q e' = absurd (cc e')

    by : (o : Option Operand) → first_other p.local p.incoming ≡ o → sole_source all p.local p.incoming o ≡ Some v → IsTaken v p.incoming
    by None q e' = absurd (cc e')
    by (Some u) q e' = chosen u (takes_only p.local u p.incoming && not (is_phi_operand u all)) q e'

module _ (right : PhiSourcesRight) (c : ℕ → Option Operand) where
  phi_one : (all : List Phi) (p : Phi) → c p.local ≡ phi_source all p → (v : Operand) → c p.local ≡ Some v → IsPhiSource all p v × IsTaken v p.incoming
  phi_one all p is v e = let s : phi_source all p ≡ Some v = sym is ∙ e in (right all p v s, source_taken all p v s)

  phis_match : (all ps : List Phi) → Once (map (λ p. p.local) ps) → Agrees c (map (λ p. p.local) ps) (phi_candidates all ps) → PhiSources c all ps
  phis_match all [] once agrees = tt
  phis_match all (p ∷ ps) once agrees = (
    phi_one all p
        (one_local c p.local (phi_source all p)
        (agrees_left c (paired p.local (phi_source all p)) (phi_candidates all ps) (p.local ∷ []) (map (λ q. q.local) ps) (keys_phis all ps) once agrees)),
    phis_match all ps (once_right (p.local ∷ []) (map (λ q. q.local) ps) once)
        (agrees_right c (paired p.local (phi_source all p)) (phi_candidates all ps) (p.local ∷ []) (map (λ q. q.local) ps) (keys_paired p.local (phi_source all p)) once agrees),
  )

-- ---- lines

abbrev result_list : Option ℕ → List ℕ
result_list o = cons_option o []

pub results_cons : (o : Option ℕ) (xs : List ℕ) → cons_option o xs ≡ result_list o ++ xs
results_cons None xs = refl
results_cons (Some x) xs = refl

keys_result : (o : Option ℕ) (i : Instr) → KeysIn (result_candidate o i) (result_list o)
keys_result None i = λ x h. refl
keys_result (Some y) i = keys_paired y (line_source y i)

pub keys_lines : (ls : List Line) → KeysIn (line_candidates ls) (results ls)
keys_lines [] = λ x h. refl
keys_lines (l ∷ ls) =
    subst (KeysIn (line_candidates (l ∷ ls))) (sym (results_cons l.local (results ls)))
    (keys_both (result_candidate l.local l.instr) (line_candidates ls) (result_list l.local) (results ls) (keys_result l.local l.instr) (keys_lines ls))

other_is : (x : ℕ) (o : Option Operand) (v : Operand) → other_than x o ≡ Some v → (o ≡ Some v) × (is_local x v ≡ false)
other_is x None v e = absurd (cc e)
other_is x (Some u) v e = by (is_local x u) refl e
  where
    by : (b : Bool) → is_local x u ≡ b → (if b then None else Some u) ≡ Some v → (◌≡◌ {A = Option Operand} (Some u) (Some v)) × (is_local x v ≡ false)
    by true q e' = absurd (cc e')
    by false q e' = let is : u ≡ v = cc e' in (e', sym (ap (is_local x) is) ∙ q)

module _ (c : ℕ → Option Operand) where
  line_match : (o : Option ℕ) (i : Instr) → Agrees c (result_list o) (result_candidate o i) → LineSource c o i
  line_match None i agrees = tt
  line_match (Some y) i agrees = λ v e. named v e
    where
      named : (v : Operand) → c y ≡ Some v → (rule i ≡ Some v) × (is_local y v ≡ false)
      named v e = other_is y (rule i) v (sym (one_local c y (line_source y i) agrees) ∙ e)

  lines_match : (ls : List Line) → Once (results ls) → Agrees c (results ls) (line_candidates ls) → LineSources c ls
  lines_match [] once agrees = tt
  lines_match (l ∷ ls) once agrees =
      let once' : Once (result_list l.local ++ results ls) = subst Once (results_cons l.local (results ls)) once in
      let agrees' : Agrees c (result_list l.local ++ results ls) (result_candidate l.local l.instr ++ line_candidates ls) =
      subst (λ (xs : List ℕ). Agrees c xs (result_candidate l.local l.instr ++ line_candidates ls)) (results_cons l.local (results ls)) agrees in (
        line_match l.local l.instr (agrees_left c (result_candidate l.local l.instr) (line_candidates ls) (result_list l.local) (results ls) (keys_lines ls) once' agrees'),
        lines_match ls (once_right (result_list l.local) (results ls) once')
            (agrees_right c (result_candidate l.local l.instr) (line_candidates ls) (result_list l.local) (results ls) (keys_result l.local l.instr) once' agrees'),
      )

-- ---- blocks

pub keys_block : (b : Block) → KeysIn (block_candidates b) (definitions b)
unfolding block_candidates
keys_block b = keys_both (phi_candidates b.phis b.phis) (line_candidates b.lines) (phi_locals b) (results b.lines) (keys_phis b.phis b.phis) (keys_lines b.lines)

pub keys_blocks : (bs : List Block) → KeysIn (blocks_candidates bs) (flat_map definitions bs)
keys_blocks [] = λ x h. refl
keys_blocks (b ∷ bs) = keys_both (block_candidates b) (blocks_candidates bs) (definitions b) (flat_map definitions bs) (keys_block b) (keys_blocks bs)

module _ (right : PhiSourcesRight) (c : ℕ → Option Operand) where
  abbrev BlockMatches : Block → Type 0
  BlockMatches b = PhiSources c b.phis b.phis × LineSources c b.lines

  block_match : (b : Block) → Once (definitions b) → Agrees c (definitions b) (block_candidates b) → BlockMatches b
  unfolding block_candidates
  block_match b once agrees = (
    phis_match right c b.phis b.phis (once_left (phi_locals b) (results b.lines) once)
        (agrees_left c (phi_candidates b.phis b.phis) (line_candidates b.lines) (phi_locals b) (results b.lines) (keys_lines b.lines) once agrees),
    lines_match c b.lines (once_right (phi_locals b) (results b.lines) once)
        (agrees_right c (phi_candidates b.phis b.phis) (line_candidates b.lines) (phi_locals b) (results b.lines) (keys_phis b.phis b.phis) once agrees),
  )

  pub blocks_match : (bs : List Block) → Once (flat_map definitions bs) → Agrees c (flat_map definitions bs) (blocks_candidates bs) → (p : ℕ) (b : Block) → slice_get bs p ≡ Some b → BlockMatches b
  blocks_match [] once agrees p b e = absurd (cc e)
  blocks_match (d ∷ bs) once agrees zero b e =
      let is : d ≡ b = cc e in
      subst BlockMatches is
      (block_match d (once_left (definitions d) (flat_map definitions bs) once)
      (agrees_left c (block_candidates d) (blocks_candidates bs) (definitions d) (flat_map definitions bs) (keys_blocks bs) once agrees))
  blocks_match (d ∷ bs) once agrees (suc p) b e =
      blocks_match bs (once_right (definitions d) (flat_map definitions bs) once)
      (agrees_right c (block_candidates d) (blocks_candidates bs) (definitions d) (flat_map definitions bs) (keys_block d) once agrees) p b e

-- ---- functions

module _ (f : Function) (once : Distinct (locals f ++ numbers f)) where
  pub locals_once : Once (locals f)
  locals_once = once_left (locals f) (numbers f) (λ x. tally_once x (locals f ++ numbers f) once)

  pub matched : PhiSourcesRight → (p : ℕ) (b : Block) → slice_get f.blocks p ≡ Some b
      → PhiSources (replacement (candidates f)) b.phis b.phis × LineSources (replacement (candidates f)) b.lines
  matched right =
      blocks_match right (replacement (candidates f)) f.blocks (once_right (parameters f) (flat_map definitions f.blocks) locals_once) (λ x h. refl)

  some_none : (v : Operand) (o : Option Operand) → o ≡ Some v → o ≡ None → ⊥
  some_none v o e n = absurd (cc (sym n ∙ e))

  -- a local that has a candidate is defined in a block, and is no parameter
  pub has_site : (x : ℕ) (v : Operand) → replacement (candidates f) x ≡ Some v → (holds (flat_map definitions f.blocks) x ≡ true) × (holds (parameters f) x ≡ false)
  has_site x v e = by (holds (flat_map definitions f.blocks) x) refl
    where
      by : (b : Bool) → holds (flat_map definitions f.blocks) x ≡ b → (b ≡ true) × (holds (parameters f) x ≡ false)
      by true h = (refl, apart_left x (parameters f) (flat_map definitions f.blocks) (locals_once x) h)
      by false h = absurd (some_none v (replacement (candidates f) x) e (keys_blocks f.blocks x h))

  -- the block that defines it
  pub site_of : (bs : List Block) (x : ℕ) → holds (flat_map definitions bs) x ≡ true → (p : ℕ) × (b : Block) × (slice_get bs p ≡ Some b) × (holds (definitions b) x ≡ true)
  site_of [] x h = absurd (false≢true h)
  site_of (b ∷ bs) x h = by (holds (definitions b) x) refl (site_of bs x)
    where
      either : (xs ys : List ℕ) → holds (xs ++ ys) x ≡ true → holds xs x ≡ false → holds ys x ≡ true
      either [] ys h' n = h'
      either (z ∷ xs) ys h' n = at (nat_eq x z) h' n (either xs ys)
        where
          at : (t : Bool) → (t || holds (xs ++ ys) x) ≡ true → (t || holds xs x) ≡ false → (holds (xs ++ ys) x ≡ true → holds xs x ≡ false → holds ys x ≡ true) → holds ys x ≡ true
          at true a n' more = absurd (false≢true (sym n'))
          at false a n' more = more a n'

      by : (t : Bool) → holds (definitions b) x ≡ t → (holds (flat_map definitions bs) x ≡ true → (p : ℕ) × (d : Block) × (slice_get bs p ≡ Some d) × (holds (definitions d) x ≡ true))
          → (p : ℕ) × (d : Block) × (slice_get (b ∷ bs) p ≡ Some d) × (holds (definitions d) x ≡ true)
      by true q more = (0, b, refl, q)
      by false q more = let rest = more (either (definitions b) (flat_map definitions bs) h q) in (suc rest.0, rest.1, rest.2, rest.3)
