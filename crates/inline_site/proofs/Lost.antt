-- Where no block of the callee returns, the result is poison at each use, and that is better too.
use Rattle.std.proofs.Common.{◌≡◌, ◌≢◌, ℕ, suc, ◌+◌, ◌<◌, ◌≤◌, inl, inr, ◌==◌, nat_eq, Bool, true, false, List, [], ◌∷◌, ◌++◌, Option, Some, None, map, option_map, refl, sym, ◌∙◌, ap, subst, arith, append_assoc, if◌then◌else◌}
use Rattle.std.specs.Prelude.{All}
use Rattle.std.proofs.lemmas.Bool.{eqb-true}
use Rattle.ir_tree.specs.Flow.{successors}
use Rattle.ir_tree.specs.Items.{block_items, items_from}
use Rattle.ir_tree.specs.Rules.{EndTypes, Keeps, Sound}
use Rattle.ir_tree.specs.declared.block.Block.{Block}
use Rattle.ir_tree.specs.declared.block.Case.{Case}
use Rattle.ir_tree.specs.declared.block.Terminator.{Terminator}
use Rattle.ir_tree.specs.declared.block.Terminator.TheVariants.{Branch, Jump, Return, Switch, Unreachable}
use Rattle.ir_tree.specs.declared.function.Function.{Function}
use Rattle.ir_tree.specs.declared.function.Param.{Param}
use Rattle.ir_tree.specs.declared.instr.Incoming.{Incoming}
use Rattle.ir_tree.specs.declared.instr.Line.{Line}
use Rattle.ir_tree.specs.declared.instr.Phi.{Phi}
use Rattle.ir_tree.specs.declared.operand.Argument.{Argument}
use Rattle.ir_tree.specs.declared.operand.Operand.{Operand}
use Rattle.ir_tree.specs.declared.operand.Operand.TheVariants.{Poison}
use Rattle.ir_tree.specs.declared.operand.Reg.{Reg}
use Rattle.ir_tree.specs.declared.rule.Rule.TheVariants.{TypeMismatch}
use Rattle.ir_meaning.specs.Act.{find_block}
use Rattle.ir_meaning.specs.Near.{BetterThan}
use Rattle.ir_tree.specs.Edited.{block_edited, case_edited, end_edited, line_edited, param_edited, phi_edited}
use Rattle.ir_edit.specs.Numbered.{block_numbers, blocks_numbers, line_numbers, local_number, param_numbers, phi_numbers}
use Rattle.ir_edit.specs.Substituted.{substituted}
use Rattle.ir_edit.proofs.Tally.{tally, tally_both, tally_same}
use Rattle.ir_meaning.specs.Facts.{InCases, IsTarget}
use Rattle.inline_site.specs.Copies.{behind_call, copied, copied_number, copied_operand, first_free}
use Rattle.inline_site.specs.Inlined.{IsInlined, before_call, end_leading, entry_of, inlined, leading_to, named, phi_named, result_given, result_phis, return_entries, return_entry}
use Rattle.inline_site.specs.Laws.{IsBetter}
use Rattle.inline_site.specs.Sites.{IsCallOf, Site, StandsAt}
use Rattle.inline_site.proofs.Copied.{copied_apart}
use Rattle.inline_site.proofs.Fitting.{AreBelow, BlocksFit, LocalBelow, all_back, all_front, fit_back, fit_front, fits}
use Rattle.inline_site.proofs.Moved.{differs}
use Rattle.inline_site.proofs.Once.{once_each}
use Rattle.inline_site.proofs.Sparing.{end_of}
use Rattle.inline_site.proofs.Spliced.{all_fit, better_if, call_fits, phi_is, phi_of, with_phi_better, with_phis}
use Rattle.inline_site.proofs.Unset.{BeginsToo, BlockSpares, FoundToo, IsLost, LinesSpare, ParamsSpare, PhisSpare, lost, lost_better}
use Rattle.ir_edit.proofs.Counting.{blocks_tally}

-- ---- two lists of blocks that differ in one block alone

abbrev SameBut : ℕ → ℕ → List Block → List Block → Type 0
SameBut x behind [] [] = Unit {0}
SameBut x behind (b ∷ bs) (c ∷ cs) = (b.number ≡ c.number) × ((b.number ≡ behind → ⊥) → (b ≡ c) × BlockSpares x behind b) × SameBut x behind bs cs
SameBut x behind _ _ = ⊥

abbrev AllSpare : ℕ → ℕ → List Block → Type 0
AllSpare x behind [] = Unit {0}
AllSpare x behind (b ∷ bs) = BlockSpares x behind b × AllSpare x behind bs

same_front : (x behind : ℕ) (as' bs cs : List Block) → AllSpare x behind as' → SameBut x behind bs cs → SameBut x behind (as' ++ bs) (as' ++ cs)
same_front x behind [] bs cs h rest = rest
same_front x behind (a ∷ as') bs cs h rest = (refl, λ ne. (refl, h.0), same_front x behind as' bs cs h.1 rest)

same_all : (x behind : ℕ) (bs : List Block) → AllSpare x behind bs → SameBut x behind bs bs
same_all x behind [] h = tt
same_all x behind (b ∷ bs) h = (refl, λ ne. (refl, h.0), same_all x behind bs h.1)

abbrev edit : ℕ → Reg → Block → Block
edit x reg b = block_edited (λ n. n) (lost x reg) b

module _ (x behind : ℕ) (reg : Reg) where
  found_same : (bs cs : List Block) → SameBut x behind bs cs → (n : ℕ) → (n ≡ behind → ⊥) → FoundToo x behind reg (find_block bs n) (find_block (map (edit x reg) cs) n)
  found_same [] [] h n ne = refl
  found_same [] (c ∷ cs) h n ne = absurd h
  found_same (b ∷ bs) [] h n ne = absurd h
  found_same (b ∷ bs) (c ∷ cs) h n ne = at (b.number == n) refl (found_same bs cs h.2 n ne)
    where
      at : (u : Bool) → (b.number == n) ≡ u → FoundToo x behind reg (find_block bs n) (find_block (map (edit x reg) cs) n)
          → FoundToo x behind reg (if u then Some b else find_block bs n) (if c.number == n then Some (edit x reg c) else find_block (map (edit x reg) cs) n)
      at true e rest =
          let here = h.1 (λ k. ne (sym (eqb-true b.number n e) ∙ k)) in
          let test : (c.number == n) ≡ true = ap (λ (k : ℕ). k == n) (sym h.0) ∙ e in (
            ap (λ (u : Bool). if u then Some (edit x reg c) else find_block (map (edit x reg) cs) n) test ∙ ap (λ (k : Block). Some (edit x reg k)) (sym here.0),
            here.1,
          )
      at false e rest =
          let test : (c.number == n) ≡ false = ap (λ (k : ℕ). k == n) (sym h.0) ∙ e in
          subst (λ (u : Bool). FoundToo x behind reg (find_block bs n) (if u then Some (edit x reg c) else find_block (map (edit x reg) cs) n)) (sym test) rest

  abbrev FirstIsOther : List Block → Type 0
  FirstIsOther [] = Unit {0}
  FirstIsOther (b ∷ bs) = b.number ≡ behind → ⊥

  begins_same : (bs cs : List Block) → SameBut x behind bs cs → FirstIsOther bs → BeginsToo x behind reg bs (map (edit x reg) cs)
  begins_same [] [] h ne = refl
  begins_same [] (c ∷ cs) h ne = absurd h
  begins_same (b ∷ bs) [] h ne = absurd h
  begins_same (b ∷ bs) (c ∷ cs) h ne = let here = h.1 ne in (map (edit x reg) cs, ap (λ (k : Block). edit x reg k ∷ map (edit x reg) cs) (sym here.0), here.1)

-- ---- numbers of parts

numbers_both : (xs ys : List Block) → blocks_numbers (xs ++ ys) ≡ blocks_numbers xs ++ blocks_numbers ys
numbers_both [] ys = refl
numbers_both (x ∷ xs) ys = ap (λ (l : List ℕ). block_numbers x ++ l) (numbers_both xs ys) ∙ sym (append_assoc (block_numbers x) (blocks_numbers xs) (blocks_numbers ys))

lines_both : (xs ys : List Line) → line_numbers (xs ++ ys) ≡ line_numbers xs ++ line_numbers ys
lines_both [] ys = refl
lines_both (x ∷ xs) ys = ap (λ (l : List ℕ). local_number x.local ++ l) (lines_both xs ys) ∙ sym (append_assoc (local_number x.local) (line_numbers xs) (line_numbers ys))

block_parts : (x : ℕ) (b : Block) → tally x (block_numbers b) ≡ (if nat_eq x b.number then 1 else 0) + (tally x (phi_numbers b.phis) + tally x (line_numbers b.lines))
unfolding block_numbers
block_parts x b = let both : tally x (phi_numbers b.phis ++ line_numbers b.lines) ≡ tally x (phi_numbers b.phis) + tally x (line_numbers b.lines) = tally_both x (phi_numbers b.phis) (line_numbers b.lines) in omega (arith, both)

line_parts : (x : ℕ) (l : Line) (ls : List Line) → tally x (line_numbers (l ∷ ls)) ≡ tally x (local_number l.local) + tally x (line_numbers ls)
line_parts x l ls = tally_both x (local_number l.local) (line_numbers ls)

-- the local is nobody else's
record IsAlone (x : ℕ) (f : Function) (s : Site) : Type 0 where
  params : tally x (param_numbers f.params) ≡ 0
  front : tally x (blocks_numbers s.front) ≡ 0
  back : tally x (blocks_numbers s.back) ≡ 0
  phis : tally x (phi_numbers s.block.phis) ≡ 0
  before : tally x (line_numbers s.before) ≡ 0
  after : tally x (line_numbers s.after) ≡ 0

alone : (f : Function) → Sound f → (place : ℕ) (s : Site) → StandsAt f.blocks place s → (x : ℕ) → s.call.local ≡ Some x → IsAlone x f s
alone f sound place s at x local =
    let most = once_each f sound.formed x in
    let all = blocks_tally x f.blocks in
    let parts : tally x (blocks_numbers f.blocks) ≡ tally x (blocks_numbers s.front) + tally x (blocks_numbers (s.block ∷ s.back)) =
    ap (λ (bs : List Block). tally x (blocks_numbers bs)) at.blocks ∙ ap (tally x) (numbers_both s.front (s.block ∷ s.back)) ∙ tally_both x (blocks_numbers s.front) (blocks_numbers (s.block ∷ s.back)) in
    let rest : tally x (blocks_numbers (s.block ∷ s.back)) ≡ tally x (block_numbers s.block) + tally x (blocks_numbers s.back) = tally_both x (block_numbers s.block) (blocks_numbers s.back) in
    let block : tally x (block_numbers s.block) ≡ (if nat_eq x s.block.number then 1 else 0) + (tally x (phi_numbers s.block.phis) + tally x (line_numbers s.block.lines)) = block_parts x s.block in
    let lines : tally x (line_numbers s.block.lines) ≡ tally x (line_numbers s.before) + tally x (line_numbers (s.call ∷ s.after)) =
    ap (λ (ls : List Line). tally x (line_numbers ls)) at.lines ∙ ap (tally x) (lines_both s.before (s.call ∷ s.after)) ∙ tally_both x (line_numbers s.before) (line_numbers (s.call ∷ s.after)) in
    let call : tally x (line_numbers (s.call ∷ s.after)) ≡ tally x (local_number s.call.local) + tally x (line_numbers s.after) = line_parts x s.call s.after in
    let itself : tally x (local_number s.call.local) ≡ (if nat_eq x x then 1 else 0) + 0 = ap (λ (o : Option ℕ). tally x (local_number o)) local in
    let one : 1 ≤ (if nat_eq x x then 1 else 0) = tally_same x x refl in
    record {
      params = omega (arith, most, all, parts, rest, block, lines, call, itself, one);
      front = omega (arith, most, all, parts, rest, block, lines, call, itself, one);
      back = omega (arith, most, all, parts, rest, block, lines, call, itself, one);
      phis = omega (arith, most, all, parts, rest, block, lines, call, itself, one);
      before = omega (arith, most, all, parts, rest, block, lines, call, itself, one);
      after = omega (arith, most, all, parts, rest, block, lines, call, itself, one);
    }

-- ---- what spares the local

params_spare : (x : ℕ) (ps : List Param) → tally x (param_numbers ps) ≡ 0 → ParamsSpare x ps
params_spare x [] none = tt
params_spare x (p ∷ ps) none = (differs p.local x (tally x (param_numbers ps)) none, params_spare x ps (omega (arith, none)))

phis_spare : (x block behind : ℕ) (ps : List Phi) → tally x (phi_numbers ps) ≡ 0 → PhisSpare x (map (phi_named block behind) ps)
phis_spare x block behind [] none = tt
phis_spare x block behind (p ∷ ps) none = (differs p.local x (tally x (phi_numbers ps)) none, phis_spare x block behind ps (omega (arith, none)))

lines_spare : (x : ℕ) (ls : List Line) → tally x (line_numbers ls) ≡ 0 → LinesSpare x ls
lines_spare x [] none = tt
lines_spare x (l ∷ ls) none =
    let parts : tally x (line_numbers (l ∷ ls)) ≡ tally x (local_number l.local) + tally x (line_numbers ls) = line_parts x l ls in (
      (λ e. let itself : tally x (local_number l.local) ≡ (if nat_eq x x then 1 else 0) + 0 = ap (λ (o : Option ℕ). tally x (local_number o)) e in
          let one : 1 ≤ (if nat_eq x x then 1 else 0) = tally_same x x refl in omega (arith, none, parts, itself, one)),
      lines_spare x ls (omega (arith, none, parts)),
    )

cases_below : (n : ℕ) (cs : List Case) → AreBelow n (map (λ c. c.target) cs) → (m : ℕ) → InCases cs m → m < n
cases_below n [] h m t = absurd t
cases_below n (c ∷ cs) h m (inl e) = subst (λ (k : ℕ). k < n) e h.0
cases_below n (c ∷ cs) h m (inr t) = cases_below n cs h.1 m t

target_below : (n : ℕ) (e : Terminator) → AreBelow n (successors e) → (m : ℕ) → IsTarget e m → m < n
target_below n (Return a) h m t = absurd t
target_below n (Jump target) h m t = subst (λ (k : ℕ). k < n) t h.0
target_below n (Branch condition if_true if_false) h m (inl t) = subst (λ (k : ℕ). k < n) t h.0
target_below n (Branch condition if_true if_false) h m (inr t) = subst (λ (k : ℕ). k < n) t h.1.0
target_below n (Switch width value default cases) h m (inl t) = subst (λ (k : ℕ). k < n) t h.0
target_below n (Switch width value default cases) h m (inr t) = cases_below n cases h.1 m t
target_below n Unreachable h m t = absurd t

named_spare : (x n block behind : ℕ) (bs : List Block) → n ≤ behind → BlocksFit n bs → tally x (blocks_numbers bs) ≡ 0 → AllSpare x behind (map (named block behind) bs)
named_spare x n block behind [] less fit none = tt
named_spare x n block behind (b ∷ bs) less fit none =
    let parts : tally x (blocks_numbers (b ∷ bs)) ≡ tally x (block_numbers b) + tally x (blocks_numbers bs) = tally_both x (block_numbers b) (blocks_numbers bs) in
    let own : tally x (block_numbers b) ≡ (if nat_eq x b.number then 1 else 0) + (tally x (phi_numbers b.phis) + tally x (line_numbers b.lines)) = block_parts x b in (
      record {
        phis = phis_spare x block behind b.phis (omega (arith, none, parts, own));
        lines = lines_spare x b.lines (omega (arith, none, parts, own));
        leads = λ m t e. let lt : m < n = target_below n b.end fit.0.targets m t in omega (arith, lt, e, less);
      },
      named_spare x n block behind bs less fit.1 (omega (arith, none, parts)),
    )

-- ---- the copy of a callee without returns

abbrev NotReturn : Terminator → Type 0
NotReturn (Return a) = ⊥
NotReturn end = Unit {0}

not_return : (callee : Function) (reg : Reg) → callee.result ≡ Some reg → (number : ℕ → ℕ) (operand : Operand → Operand) (n : ℕ) (e : Terminator) (es : List Incoming) → EndTypes callee e
    → return_entry n (end_edited number operand e) es ≡ [] → (es ≡ []) × NotReturn e
not_return callee reg result number operand n (Return (Some a)) es types none = absurd (cc none)
not_return callee reg result number operand n (Return None) es types none = absurd (cc (types, result))
not_return callee reg result number operand n (Jump target) es types none = (none, tt)
not_return callee reg result number operand n (Branch condition if_true if_false) es types none = (none, tt)
not_return callee reg result number operand n (Switch width value default cases) es types none = (none, tt)
not_return callee reg result number operand n Unreachable es types none = (none, tt)

module _ (free : ℕ) (callee : Function) (as' : List Argument) (x : ℕ) (is : x < free) where
  abbrev number : ℕ → ℕ
  number = copied_number free callee

  abbrev operand : Operand → Operand
  operand = copied_operand free callee as'

  abbrev behind : ℕ
  behind = behind_call free callee

  not_here : (y : ℕ) → number y ≡ x → ⊥
  not_here y e = let more : free ≤ number y = omega arith in omega (arith, is, e, more)

  not_behind : (y : ℕ) → y < first_free callee → number y ≡ behind → ⊥
  not_behind y lt e = let same : y ≡ first_free callee = copied_apart free callee y (first_free callee) e in omega (arith, lt, same)

  copied_phis : (ps : List Phi) → PhisSpare x (map (phi_edited number operand) ps)
  copied_phis [] = tt
  copied_phis (p ∷ ps) = (not_here p.local, copied_phis ps)

  copied_local : (o : Option ℕ) → option_map number o ≡ Some x → ⊥
  copied_local None e = cc e
  copied_local (Some y) e = not_here y (cc e)

  copied_lines : (ls : List Line) → LinesSpare x (map (line_edited number operand) ls)
  copied_lines [] = tt
  copied_lines (l ∷ ls) = (copied_local l.local, copied_lines ls)

  copied_cases : (cs : List Case) → AreBelow (first_free callee) (map (λ c. c.target) cs) → (m : ℕ) → InCases (map (case_edited number) cs) m → m ≡ behind → ⊥
  copied_cases [] h m t e = t
  copied_cases (c ∷ cs) h m (inl t) e = not_behind c.target h.0 (t ∙ e)
  copied_cases (c ∷ cs) h m (inr t) e = copied_cases cs h.1 m t e

  copied_end : (t : Terminator) → NotReturn t → AreBelow (first_free callee) (successors t) → (m : ℕ) → IsTarget (end_leading behind (end_edited number operand t)) m → m ≡ behind → ⊥
  copied_end (Return a) not h m t e = not
  copied_end (Jump target) not h m t e = not_behind target h.0 (t ∙ e)
  copied_end (Branch condition if_true if_false) not h m (inl t) e = not_behind if_true h.0 (t ∙ e)
  copied_end (Branch condition if_true if_false) not h m (inr t) e = not_behind if_false h.1.0 (t ∙ e)
  copied_end (Switch width value default cases) not h m (inl t) e = not_behind default h.0 (t ∙ e)
  copied_end (Switch width value default cases) not h m (inr t) e = copied_cases cases h.1 m t e
  copied_end Unreachable not h m t e = t

  copied_spare : (reg : Reg) → callee.result ≡ Some reg → (k : ℕ) (bs : List Block) → BlocksFit (first_free callee) bs → All (Keeps callee TypeMismatch) (items_from k bs)
      → return_entries (map (block_edited number operand) bs) ≡ [] → AllSpare x behind (map (leading_to behind) (map (block_edited number operand) bs))
  copied_spare reg result k [] fit types none = tt
  copied_spare reg result k (b ∷ bs) fit types none =
      let here : EndTypes callee b.end = (end_of (Keeps callee TypeMismatch) k b (all_front (Keeps callee TypeMismatch) (block_items k b) (items_from (suc k) bs) types)).1 in
      let not = not_return callee reg result number operand (number b.number) b.end (return_entries (map (block_edited number operand) bs)) here none in (
        record { phis = copied_phis b.phis; lines = copied_lines b.lines; leads = copied_end b.end not.1 fit.0.targets },
        copied_spare reg result (suc k) bs fit.1 (all_back (Keeps callee TypeMismatch) (block_items k b) (items_from (suc k) bs) types) not.0,
      )

-- ---- the function

pub params_same : (ps : List Param) → map (param_edited (λ n. n)) ps ≡ ps
params_same [] = refl
params_same (p ∷ ps) = ap (λ (l : List Param). p ∷ l) (params_same ps)

module _ (f callee : Function) (place : ℕ) (s : Site) (as' : List Argument) (sound : Sound f) (sound' : Sound callee) (at : StandsAt f.blocks place s) (is : IsCallOf callee s.call.instr as')
    (entry : Block) (others : List Block) (body : callee.blocks ≡ entry ∷ others) (x : ℕ) (reg : Reg) (local : s.call.local ≡ Some x) (result : callee.result ≡ Some reg)
    (none : return_entries (copied (first_free f) callee as') ≡ []) where
  abbrev free' : ℕ
  free' = first_free f

  abbrev behind' : ℕ
  behind' = behind_call free' callee

  abbrev copy : List Block
  copy = copied free' callee as'

  below_free : x < free'
  below_free = subst (LocalBelow free') local (call_fits f callee place s as' sound sound' at is entry others body).0

  the_alone : IsAlone x f s
  the_alone = alone f sound place s at x local

  past : free' ≤ behind'
  past = omega arith

  all : BlocksFit free' (s.front ++ s.block ∷ s.back)
  all = all_fit f callee place s as' sound sound' at is entry others body

  entry_other : entry_of copy ≡ behind' → ⊥
  entry_other e =
      let number : entry_of copy ≡ copied_number free' callee entry.number = ap (λ (bs : List Block). entry_of (map (block_edited (copied_number free' callee) (copied_operand free' callee as')) bs)) body in
      let fit : BlocksFit (first_free callee) (entry ∷ others) = subst (BlocksFit (first_free callee)) body (fits callee sound') in
      not_behind free' callee as' x below_free entry.number fit.0.number (sym number ∙ e)

  before_spares : BlockSpares x behind' (before_call s behind' copy)
  before_spares = record {
    phis = phis_spare x s.block.number behind' s.block.phis the_alone.phis;
    lines = lines_spare x s.before the_alone.before;
    leads = λ m t e. entry_other (t ∙ e);
  }

  abbrev last : List Phi → Block
  last phis = record { number = behind'; phis = phis; lines = s.after; end = s.block.end }

  same : SameBut x behind' (with_phis s behind' copy (phi_of x reg [] ∷ []) f).blocks (with_phis s behind' copy [] f).blocks
  same =
      same_front x behind' (map (named s.block.number behind') s.front)
      (before_call s behind' copy ∷ (map (leading_to behind') copy ++ last (phi_of x reg [] ∷ []) ∷ map (named s.block.number behind') s.back))
      (before_call s behind' copy ∷ (map (leading_to behind') copy ++ last [] ∷ map (named s.block.number behind') s.back))
      (named_spare x free' s.block.number behind' s.front past (fit_front free' s.front (s.block ∷ s.back) all) the_alone.front) (
        refl,
        λ ne. (refl, before_spares),
        same_front x behind' (map (leading_to behind') copy)
            (last (phi_of x reg [] ∷ []) ∷ map (named s.block.number behind') s.back)
            (last [] ∷ map (named s.block.number behind') s.back)
            (copied_spare free' callee as' x below_free reg result 0 callee.blocks (fits callee sound') (sound'.rules TypeMismatch) none) (
              refl,
              λ ne. absurd (ne refl),
              same_all x behind' (map (named s.block.number behind') s.back)
                  (named_spare x free' s.block.number behind' s.back past (fit_back free' s.front (s.block ∷ s.back) all).1 the_alone.back),
            ),
      )

  first_other : (bs : List Block) → BlocksFit free' (bs ++ s.block ∷ s.back) → (phis : List Phi)
      → FirstIsOther x behind' reg (map (named s.block.number behind') bs ++ before_call s behind' copy ∷ (map (leading_to behind') copy ++ last phis ∷ map (named s.block.number behind') s.back))
  first_other [] fit phis = λ e. let lt : s.block.number < free' = fit.0.number in omega (arith, lt, e, past)
  first_other (b ∷ bs) fit phis = λ e. let lt : b.number < free' = fit.0.number in omega (arith, lt, e, past)

  is_lost : IsLost x behind' reg (substituted ((x, Poison reg) ∷ []) (with_phis s behind' copy [] f)) (with_phis s behind' copy (phi_of x reg [] ∷ []) f)
  is_lost = record {
    params = params_same f.params;
    spare = params_spare x f.params the_alone.params;
    found = found_same x behind' reg (with_phis s behind' copy (phi_of x reg [] ∷ []) f).blocks (with_phis s behind' copy [] f).blocks same;
    begins = begins_same x behind' reg (with_phis s behind' copy (phi_of x reg [] ∷ []) f).blocks (with_phis s behind' copy [] f).blocks same
        (first_other s.front all (phi_of x reg [] ∷ []));
  }

  is_given : inlined s callee as' f ≡ substituted ((x, Poison reg) ∷ []) (with_phis s behind' copy [] f)
  is_given = λ i. result_given (local i) (result i) (none i) (with_phis s behind' copy (result_phis (local i) (result i) (none i)) f)

  pub better_lost : IsBetter (inlined s callee as' f) f callee
  better_lost p formed own =
      subst (λ (g : Function). BetterThan p 1 g f) (sym is_given)
      (lost_better x behind' reg (substituted ((x, Poison reg) ∷ []) (with_phis s behind' copy [] f)) (with_phis s behind' copy (phi_of x reg [] ∷ []) f) is_lost p 1 f
      (subst (λ (ps : List Phi). BetterThan p 1 (with_phis s behind' copy ps f) f)
      (phi_is f callee place s as' sound sound' at is entry others body x reg local result ∙ ap (λ (es : List Incoming). phi_of x reg es ∷ []) none)
      (with_phi_better f callee place s as' sound sound' at is entry others body p formed own)))

-- inlining gives a better function
pub inlined_better : (f callee : Function) (place : ℕ) (s : Site) (as' : List Argument) → Sound f → Sound callee → StandsAt f.blocks place s → IsCallOf callee s.call.instr as' → (callee.blocks ≢ [])
    → IsBetter (inlined s callee as' f) f callee
inlined_better f callee place s as' sound sound' at is some = by callee.blocks refl
  where
    by : (bs : List Block) → callee.blocks ≡ bs → IsBetter (inlined s callee as' f) f callee
    by [] e = absurd (some e)
    by (entry ∷ others) e =
        better_if f callee place s as' sound sound' at is entry others e
        (λ x reg local result none. better_lost f callee place s as' sound sound' at is entry others e x reg local result none)

pub is_better : (f callee g : Function) (place : ℕ) → IsInlined f place callee (Some g) → Sound f → Sound callee → IsBetter g f callee
is_better f callee g place (some, s, as', stands, call, is) sound sound' = subst (λ (h : Function). IsBetter h f callee) (sym is) (inlined_better f callee place s as' sound sound' stands call some)
