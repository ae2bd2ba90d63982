-- A function with stack slots promoted to values is better.
use Rattle.std.proofs.Common.{◌≡◌, ℕ, zero, suc, ◌+◌, ◌<◌, ◌≤◌, Bool, true, false, ◌&&◌, ◌==◌, if◌then◌else◌, List, [], ◌∷◌, ◌++◌, length, replicate, Option, Some, None, slice_get, ◌⊎◌, inl, inr, refl, sym, ap, ◌∙◌, subst, arith, length-append, length-set}
use Rattle.std.proofs.lemmas.Bool.{cases_eq, ne_eqb, eq-eqb}
use Rattle.std.proofs.lemmas.List.{length-replicate}
use Rattle.std.proofs.lemmas.Option.{slice_get_within}
use Rattle.std.specs.Prelude.{slice_set}
use Rattle.ir_tree.specs.Layout.{size as size_of}
use Rattle.ir_tree.specs.declared.block.Block.{Block}
use Rattle.ir_tree.specs.declared.block.Terminator.{Terminator}
use Rattle.ir_tree.specs.declared.block.Terminator.TheVariants.{Unreachable}
use Rattle.ir_tree.specs.declared.function.Function.{Function}
use Rattle.ir_tree.specs.declared.function.Param.{Param}
use Rattle.ir_tree.specs.declared.instr.Instr.{Instr}
use Rattle.ir_tree.specs.declared.instr.Instr.TheVariants.{Alloca}
use Rattle.ir_tree.specs.declared.instr.Line.{Line}
use Rattle.ir_tree.specs.declared.instr.Phi.{Phi}
use Rattle.ir_tree.specs.declared.operand.Operand.{Operand}
use Rattle.ir_tree.specs.declared.operand.Operand.TheVariants.{Local, Number as Constant, Null, Poison as PoisonOf, Symbol as Named}
use Rattle.ir_tree.specs.declared.operand.Reg.{Reg}
use Rattle.ir_meaning.specs.Access.{store_cause, load, reaches, overwritten, store_in, store}
use Rattle.ir_meaning.specs.Act.{Act, Goes, apply, incoming_value, phis_bound, find_block, enters_block, jumps, Exit, Leaves, Leads', Stuck, exit_of, exits, act, params_bound, enter_at, enter, resume}
use Rattle.ir_meaning.specs.Bytes.{reg_size, stored_bytes, read}
use Rattle.ir_meaning.specs.Execute.{evaluate, execute, stores}
use Rattle.ir_meaning.specs.Fault.{Undefined}
use Rattle.ir_meaning.specs.Frame.{Locals, Frame, Signature, look_up, bind, value_of}
use Rattle.ir_meaning.specs.Memory.{MemoryBlock, Memory, fresh, dead, end_life, kill}
use Rattle.ir_meaning.specs.Near.{Setting, FailsWithin, IsAnswered}
use Rattle.ir_meaning.specs.Operate.{Answer, Is, Unwritten}
use Rattle.ir_meaning.specs.Program.{variables, State, On, Broken, place_of, advance, Leads}
use Rattle.ir_meaning.specs.Relate.{Pairing, Point, Fixes, Related, Kept, IsUnpaired, Agrees, AllAgree, AnswersAgree, ArgumentsAgree}
use Rattle.ir_tree.specs.declared.cause.Cause.{Cause}
use Rattle.ir_meaning.specs.declared.value.Base.TheVariants.{Nowhere, Code, Cell}
use Rattle.ir_meaning.specs.declared.value.Byte.{Byte}
use Rattle.ir_meaning.specs.declared.value.Byte.TheVariants.{Unset}
use Rattle.ir_meaning.specs.declared.value.Value.{Value}
use Rattle.ir_meaning.specs.declared.value.Value.TheVariants.{Number, Pointer, Poison}
use Rattle.ir_meaning.specs.Facts.{is_local, is_phi, phi_operand, IsTarget}
use Rattle.ir_meaning.specs.Formed.{IsFormed}
use Rattle.ir_meaning.specs.Laws.{PromotedBetter}
use Rattle.ir_meaning.specs.Promote.{chosen_value, Current, Use, Makes, Writes, Fetches, Other, Plan, changed, behind, put, lines_promoted, behind_all, block_promoted, blocks_promoted, promoted, LocalFree, LineRight, LinesRight, AreNew, BlockRight as PlanBlock, BlocksRight as PlanBlocks, ParamsFree, PlanRight}
use Rattle.ir_meaning.proofs.Alike.Answering.{near_by, bounded, answered_after, alone, answered_effects, answered_return, answered_go, answered_fails, breaks_at_once, bind_agrees, phis_agree, EndReads, ExitsAgree, exit_agrees, names_of, act_at_line, act_at_end}
use Rattle.ir_meaning.proofs.Alike.Effects.{locals_later, evaluate_agrees, reads_agree, EffectsAlike, execute_alike, gives_alike}
use Rattle.ir_meaning.proofs.Alike.Keeping.{get_set_same, kept_refl, kept_trans, kept_fixes, get_append_new}
use Rattle.ir_meaning.proofs.Alike.Values.{LocalsAgree, if_agrees, value_of_agrees, AnswerAgrees}
use Rattle.ir_meaning.proofs.Between.Points.{lands}
use Rattle.ir_meaning.proofs.Facts.Known.{resume_is, target_in}
use Rattle.ir_meaning.proofs.Facts.Phis.{phi_value, phi_none}
use Rattle.ir_meaning.proofs.Rules.Rows.{rows}
use Rattle.ir_meaning.proofs.Runs.Steps.{one_step, leads_trans}
use Rattle.ir_meaning.proofs.Unneeded.Dropped.{kept_right, right_more_kept, right_dead_kept, SlotsKin, kin_later, kin_right, kin_killed, kin_more, bind_other}
use Rattle.ir_meaning.proofs.Slots.Contents.{stored_length, all_new, unset_read, storable_some, stands_agrees, SlotIs, slot_later, slot_beside, slot_within, slot_load}

-- ---- locals

bind_beside : (local : Option ℕ) (v : Option Value) (ls : Locals) (x : ℕ) → (local ≡ Some x → ⊥) → look_up (bind local v ls) x ≡ look_up ls x
bind_beside None v ls x ne = refl
bind_beside (Some y) None ls x ne = refl
bind_beside (Some y) (Some v) ls x ne = ap (λ (b : Bool). if b then v else look_up ls x) (ne_eqb y x (λ e. ne (ap (λ (i : ℕ). Some i) e)))

operand_beside : (sig : Signature) (y : ℕ) (v : Option Value) (ls : Locals) (o : Operand) → is_local y o ≡ false → value_of sig (bind (Some y) v ls) o ≡ value_of sig ls o
operand_beside sig y None ls o e = refl
operand_beside sig y (Some v) ls (Local z) e = by (cases_eq y z)
  where
    by : (y ≡ z) ⊎ (y ≡ z → ⊥) → look_up ((y, v) ∷ ls) z ≡ look_up ls z
    by (inl same) = let t = eq-eqb z y (sym same) in absurd (cc (t, e))
    by (inr ne) = ap (λ (b : Bool). if b then v else look_up ls z) (ne_eqb y z ne)
operand_beside sig y (Some v) ls (Constant w n) e = refl
operand_beside sig y (Some v) ls Null e = refl
operand_beside sig y (Some v) ls (PoisonOf reg) e = refl
operand_beside sig y (Some v) ls (Named s i) e = refl

apart_from : (slot : ℕ → Bool) (y x : ℕ) → slot y ≡ false → slot x ≡ true → (y ≡ x → ⊥)
apart_from slot y x a b e = let k = ap slot e in cc (a, b, k)

-- new phis on the left
news_agree : (sig : Signature) (w : Pairing) (n : ℕ) (keeps : ℕ → Bool) (ls : Locals) (from : ℕ) (ns ps : List Phi) → AreNew keeps ns → (ls' rs' : Locals) →
    LocalsAgree keeps w n (phis_bound sig ls from ps ls') rs' → LocalsAgree keeps w n (phis_bound sig ls from (ns ++ ps) ls') rs'
news_agree sig w n keeps ls from [] ps a ls' rs' h = h
news_agree sig w n keeps ls from (x ∷ ns) ps a ls' rs' h = by (news_agree sig w n keeps ls from ns ps a.1 ls' rs' h)
  where
    by1 : LocalsAgree keeps w n (phis_bound sig ls from (ns ++ ps) ls') rs' → (y : ℕ) → keeps y ≡ true → (x.local ≡ y) ⊎ (x.local ≡ y → ⊥) →
        Agrees w n (look_up (phis_bound sig ls from (x ∷ ns ++ ps) ls') y) (look_up rs' y)
    by1 rest y kept (inl same) = let k' = ap keeps same in absurd (cc (a.0, kept, k'))
    by1 rest y kept (inr other) = subst (λ (b : Bool). Agrees w n (if b then incoming_value sig ls from x.incoming else look_up (phis_bound sig ls from (ns ++ ps) ls') y)
        (look_up rs' y)) (sym (ne_eqb x.local y other)) (rest y kept)

    by : LocalsAgree keeps w n (phis_bound sig ls from (ns ++ ps) ls') rs' → LocalsAgree keeps w n (phis_bound sig ls from (x ∷ ns ++ ps) ls') rs'
    by rest = λ y kept. by1 rest y kept (cases_eq x.local y)

params_unset : (slot : ℕ → Bool) (ps : List Param) → ParamsFree slot ps → (vs : List Value) (x : ℕ) → slot x ≡ true → look_up (params_bound ps vs) x ≡ Poison
params_unset slot [] f vs x s = refl
params_unset slot (p ∷ ps) f [] x s = refl
params_unset slot (p ∷ ps) f (v ∷ vs) x s = ap (λ (b : Bool). if b then v else look_up (params_bound ps vs) x) (ne_eqb p.local x (apart_from slot p.local x f.0 s))
    ∙ params_unset slot ps f.1 vs x s

found_plan : (t : Plan) (f : Function) (bs : List Block) → PlanBlocks t f bs → (n : ℕ) (x : Block) → find_block bs n ≡ Some x → PlanBlock t f x ×
    (find_block (blocks_promoted t bs) n ≡ Some (block_promoted t x))
found_plan t f [] c n x e = absurd (cc e)
found_plan t f (b ∷ bs) c n x e = by (b.number == n) e (found_plan t f bs c.1 n x)
  where
    by : (v : Bool) → (if v then Some b else find_block bs n) ≡ Some x → (find_block bs n ≡ Some x → PlanBlock t f x ×
        (find_block (blocks_promoted t bs) n ≡ Some (block_promoted t x))) → PlanBlock t f x ×
        ((if v then Some (block_promoted t b) else find_block (blocks_promoted t bs) n) ≡ Some (block_promoted t x))
    by true e' go = let is : b ≡ x = cc e' in (subst (λ (z : Block). PlanBlock t f z) is c.0, ap (λ (z : Block). Some (block_promoted t z)) is)
    by false e' go = go e'

-- a store in the slot is undefined, or changes that block alone
store_slot : (entry p : Point) (v u' : Value) (reg : Reg) (align : ℕ) (u : Value) → SlotIs entry p v reg u → (store p.right reg u' u align ≡ None) ⊎
    ((r : ℕ) × (x : MemoryBlock) × (u ≡ Pointer (Cell r) 0) × (slice_get p.right r ≡ Some x) × IsUnpaired p r × (length entry.right ≤ r) × (length x.bytes ≡ reg_size reg) ×
    (store p.right reg u' u align ≡ Some (slice_set p.right r (record x { bytes = overwritten x.bytes 0 (stored_bytes reg u') }))))
store_slot entry p v u' reg align Poison s = inl refl
store_slot entry p v u' reg align (Pointer (Cell r) zero) s = by (s.0.writable && reaches s.0 0 (reg_size reg) align) refl
  where
    at : store p.right reg u' (Pointer (Cell r) 0) align ≡ store_in p.right r (Some s.0) reg u' 0 align
    at = ap (λ (o : Option MemoryBlock). store_in p.right r o reg u' 0 align) s.1

    new : MemoryBlock
    new = record s.0 { bytes = overwritten s.0.bytes 0 (stored_bytes reg u') }

    by : (b : Bool) → (s.0.writable && reaches s.0 0 (reg_size reg) align) ≡ b → (store p.right reg u' (Pointer (Cell r) 0) align ≡ None) ⊎
        ((r' : ℕ) × (x : MemoryBlock) × (Pointer (Cell r) 0 ≡ Pointer (Cell r') 0) × (slice_get p.right r' ≡ Some x) × IsUnpaired p r' × (length entry.right ≤ r') ×
        (length x.bytes ≡ reg_size reg) × (store p.right reg u' (Pointer (Cell r) 0) align ≡ Some
        (slice_set p.right r' (record x { bytes = overwritten x.bytes 0 (stored_bytes reg u') }))))
    by false e = inl (at ∙ ap (λ (b : Bool). if b then Some (slice_set p.right r new) else None) e)
    by true e = inr (r, s.0, refl, s.1, s.2, s.3, s.4, at ∙ ap (λ (b : Bool). if b then Some (slice_set p.right r new) else None) e)
store_slot entry p v u' reg align (Pointer (Cell r) (suc o)) s = absurd s
store_slot entry p v u' reg align (Pointer Nowhere o) s = absurd s
store_slot entry p v u' reg align (Pointer (Code t) o) s = absurd s
store_slot entry p v u' reg align (Number n) s = absurd s

bind_none : (local : Option ℕ) (ls : Locals) → bind local None ls ≡ ls
bind_none None ls = refl
bind_none (Some x) ls = refl

-- ---- the invariant

module _ (z : Setting) (formed : IsFormed z.program) (f : Function) (t : Plan) (plan : PlanRight t f) (bound : t.longest + 1 ≤ z.bound) where
  abbrev EdgesAre : ℕ → Terminator → Type 0
  EdgesAre from e = (n : ℕ) (y : Block) → IsTarget e n → find_block f.blocks n ≡ Some y → (x : ℕ) → t.slot x ≡ true → (v : ℕ) × (t.starts y.number x ≡ Local v) ×
      (is_phi v (t.news y.number ++ y.phis) ≡ true) × (phi_operand v from (t.news y.number ++ y.phis) ≡ Some (t.ends from x))

  abbrev Apart : Locals → Type 0
  Apart ls = (x y r : ℕ) → t.slot x ≡ true → t.slot y ≡ true → (x ≡ y → ⊥) → look_up ls x ≡ Pointer (Cell r) 0 → look_up ls y ≡ Pointer (Cell r) 0 → ⊥

  abbrev Held : Point → Point → Current → Locals → Locals → Type 0
  Held entry p c ls rs = (x : ℕ) → t.slot x ≡ true → SlotIs entry p (value_of z.program.signature ls (c x)) (t.reg x) (look_up rs x)

  record Pro (entry p : Point) (a b : Frame) (c : Current) : Type 0 where
    kept : Kept (variables z.program) entry p
    fixes : Fixes (variables z.program) entry
    function : a.function ≡ promoted t f
    function' : b.function ≡ f
    block : a.block ≡ b.block
    rest : a.rest ≡ lines_promoted t c b.rest
    end : a.end ≡ b.end
    locals : LocalsAgree t.keeps p.pairing (length p.left) a.locals b.locals
    slots : SlotsKin entry p a.slots b.slots
    lines : LinesRight t c b.rest
    ends_are : (x : ℕ) → behind_all t c b.rest x ≡ t.ends b.block x
    reads : EndReads t.keeps b.end
    targets : EdgesAre b.block b.end
    short : length b.rest ≤ t.longest
    held : Held entry p c a.locals b.locals
    apart : Apart b.locals

  record Holds (entry : Point) (a : Frame) (m : Memory) (s : State) : Type 0 where
    point : Point
    left : point.left ≡ m
    frame : Frame
    place : ℕ
    is : s ≡ alone frame point.right place
    current : Current
    pro : Pro entry point a frame current

  holds : (entry p : Point) (a b : Frame) (place : ℕ) (c : Current) → Pro entry p a b c → Holds entry a p.left (alone b p.right place)
  holds entry p a b place c pro = record { point = p; left = refl; frame = b; place = place; is = refl; current = c; pro = pro }

  -- ---- what is left of a block

  tail_rest : (a b : Frame) (c : Current) (line : Line) (rest : List Line) (u : Use) → a.rest ≡ lines_promoted t c b.rest → b.rest ≡ line ∷ rest → t.uses line ≡ u →
      a.rest ≡ put t.reg u c line (lines_promoted t (behind t.reg u c) rest)
  tail_rest a b c line rest u r e us = r ∙ ap (λ (l : List Line). lines_promoted t c l) e ∙ ap (λ (x : Use). put t.reg x c line (lines_promoted t (behind t.reg x c) rest)) us

  tail_lines : (b : Frame) (c : Current) (line : Line) (rest : List Line) (u : Use) → LinesRight t c b.rest → b.rest ≡ line ∷ rest → t.uses line ≡ u →
      LineRight t c u line × LinesRight t (behind t.reg u c) rest
  tail_lines b c line rest u r e us =
      subst (λ (x : Use). LineRight t c x line × LinesRight t (behind t.reg x c) rest) us (subst (λ (l : List Line). LinesRight t c l) e r)

  tail_ends : (b : Frame) (c : Current) (line : Line) (rest : List Line) (u : Use) → ((x : ℕ) → behind_all t c b.rest x ≡ t.ends b.block x) → b.rest ≡ line ∷ rest →
      t.uses line ≡ u → (x : ℕ) → behind_all t (behind t.reg u c) rest x ≡ t.ends b.block x
  tail_ends b c line rest u r e us x =
      sym (ap (λ (y : Use). behind_all t (behind t.reg y c) rest x) us) ∙ sym (ap (λ (l : List Line). behind_all t c l x) e) ∙ r x

  -- ---- a step of the program alone

  gone : (entry p : Point) (a b : Frame) (c : Current) (m' : Memory) → Pro entry p a b c → (line : Line) (rest : List Line) → b.rest ≡ line ∷ rest → (u : Use) →
      t.uses line ≡ u → ((l : List Line) → put t.reg u c line l ≡ l) → Kept (variables z.program) entry (record { pairing = p.pairing; left = p.left; right = m' }) → (lb : Locals) →
      LocalsAgree t.keeps p.pairing (length p.left) a.locals lb → (ss : List ℕ) → SlotsKin entry (record { pairing = p.pairing; left = p.left; right = m' }) a.slots ss →
      Held entry (record { pairing = p.pairing; left = p.left; right = m' }) (behind t.reg u c) a.locals lb → Apart lb →
      Pro entry (record { pairing = p.pairing; left = p.left; right = m' }) a (record b { rest = rest; locals = lb; slots = ss }) (behind t.reg u c)
  gone entry p a b c m' k line rest e u us drops kept lb l ss s h ap' = record {
    kept = kept;
    fixes = k.fixes;
    function = k.function;
    function' = k.function';
    block = k.block;
    rest = tail_rest a b c line rest u k.rest e us ∙ drops (lines_promoted t (behind t.reg u c) rest);
    end = k.end;
    locals = l;
    slots = s;
    lines = (tail_lines b c line rest u k.lines e us).1;
    ends_are = tail_ends b c line rest u k.ends_are e us;
    reads = k.reads;
    targets = k.targets;
    short = let n = ap (λ (x : List Line). length x) e in omega (arith, k.short);
    held = h;
    apart = ap';
  }

  held_changed : (entry p : Point) (x : ℕ) (o : Operand) (c : Current) (ls rs : Locals) → SlotIs entry p (value_of z.program.signature ls o) (t.reg x) (look_up rs x) →
      ((y : ℕ) → t.slot y ≡ true → (x ≡ y → ⊥) → SlotIs entry p (value_of z.program.signature ls (c y)) (t.reg y) (look_up rs y)) → Held entry p (changed x o c) ls rs
  held_changed entry p x o c ls rs here there y s = by (cases_eq x y)
    where
      by : (x ≡ y) ⊎ (x ≡ y → ⊥) → SlotIs entry p (value_of z.program.signature ls (changed x o c y)) (t.reg y) (look_up rs y)
      by (inl same) =
          let at = subst (λ (b : Bool). SlotIs entry p (value_of z.program.signature ls (if b then o else c x)) (t.reg x) (look_up rs x)) (sym (eq-eqb x x refl)) here in
          subst (λ (w : ℕ). SlotIs entry p (value_of z.program.signature ls (changed x o c w)) (t.reg w) (look_up rs w)) same at
      by (inr ne) =
          subst (λ (b : Bool). SlotIs entry p (value_of z.program.signature ls (if b then o else c y)) (t.reg y) (look_up rs y)) (sym (ne_eqb x y ne)) (there y s ne)

  abbrev Stays : Use → Type 0
  Stays (Makes x) = ⊥
  Stays (Writes x o) = ⊥
  Stays (Fetches x) = Unit {0}
  Stays Other = Unit {0}

  record Reached (entry p : Point) (a b : Frame) (place : ℕ) (rest : List Line) : Type 0 where
    point : Point
    left : point.left ≡ p.left
    frame : Frame
    steps : ℕ
    leads : Leads z.program z.input steps (alone b p.right place) [] (On (alone frame point.right place))
    few : steps ≤ length rest
    current : Current
    pro : Pro entry point a frame current
    first : (frame.rest ≡ []) ⊎ ((line : Line) × (rest' : List Line) × (frame.rest ≡ line ∷ rest') × Stays (t.uses line))

  abbrev Reaches : Point → Point → Frame → Frame → ℕ → List Line → Type 0
  Reaches entry p a b place rest = FailsWithin z.program z.input (length rest) (alone b p.right place) [] ⊎ Reached entry p a b place rest

  reach_more : (entry p q : Point) (a b c : Frame) (place : ℕ) (line : Line) (rest : List Line) → q.left ≡ p.left → Leads z.program z.input 1 (alone b p.right place) []
      (On (alone c q.right place)) → Reaches entry q a c place rest → Reaches entry p a b place (line ∷ rest)
  reach_more entry p q a b c place line rest same one (inl g) =
      inl (record {
        steps = 1 + g.steps;
        few = omega (arith, g.few);
        seen = g.seen;
        later = g.later;
        front = g.front;
        failure = g.failure;
        leads = leads_trans z.program z.input 1 g.steps (alone b p.right place) (alone c q.right place) [] g.seen (Broken g.failure) one g.leads;
      })
  reach_more entry p q a b c place line rest same one (inr r) =
      inr (record {
        point = r.point;
        left = r.left ∙ same;
        frame = r.frame;
        steps = 1 + r.steps;
        leads = leads_trans z.program z.input 1 r.steps (alone b p.right place)
            (alone c q.right place) [] [] (On (alone r.frame r.point.right place)) one r.leads;
        few = omega (arith, r.few);
        current = r.current;
        pro = r.pro;
        first = r.first;
      })

  abbrev GoesThere : Point → Frame → ℕ → List Line → Type 0
  GoesThere entry a place rest = (q : Point) (b : Frame) (c : Current) → Pro entry q a b c → b.rest ≡ rest → Reaches entry q a b place rest

  make_step : (entry p : Point) (a b : Frame) (place : ℕ) (c : Current) → Pro entry p a b c → (line : Line) (rest : List Line) → b.rest ≡ line ∷ rest → (x : ℕ) →
      t.uses line ≡ Makes x → GoesThere entry a place rest → Reaches entry p a b place (line ∷ rest)
  make_step entry p a b place c k line rest e x us go =
      let sg = z.program.signature in
      let r = (tail_lines b c line rest (Makes x) k.lines e us).0 in
      let n = length p.right in
      let new = fresh (size_of r.3) r.4 in
      let m' : Memory = p.right ++ new ∷ [] in
      let q : Point = record { pairing = p.pairing; left = p.left; right = m' } in
      let lb : Locals = (x, Pointer (Cell n) 0) ∷ b.locals in
      let b' : Frame = record b { rest = rest; locals = lb; slots = n ∷ b.slots } in
      let is : act sg z.input b p.right place 0 ≡ Goes b' m' place [] =
      act_at_line sg z.input b p.right place 0 line rest e ∙ ap (λ (i : Instr). apply (record b { rest = rest }) line.local (execute sg z.input p.right place 0
      (evaluate (value_of sg b.locals) i))) r.5 ∙ ap (λ (l : Option ℕ). apply (record b { rest = rest }) l (execute sg z.input p.right place 0
      (evaluate (value_of sg b.locals) (Alloca r.3 r.4)))) r.1 in
      let one = one_step z.program z.input (alone b p.right place) 0 (record { events = []; next = On (alone b' m' place) })
      (ap (advance z.program (place_of b) [] p.right place) is) in
      let kp = right_more_kept {g = variables z.program} p k.kept.related new in
      let longer = length-append p.right (new ∷ []) in
      let unpaired : IsUnpaired q n = λ l lt s. absurd (omega (arith, lands p k.kept.related l lt)) in
      let l = bind_other t.keeps p.pairing (length p.left) (Some x) (Some (Pointer (Cell n) 0)) a.locals b.locals (plan.hidden x r.0) k.locals in
      let s : SlotsKin entry q a.slots (n ∷ b.slots) = inr (kept_right entry p k.kept, omega (arith, longer), unpaired, kin_later entry p q kp a.slots b.slots k.slots) in
      let at : look_up lb x ≡ Pointer (Cell n) 0 = ap (λ (t' : Bool). if t' then Pointer (Cell n) 0 else look_up b.locals x) (eq-eqb x x refl) in
      let size : length new.bytes ≡ reg_size (t.reg x) = length-replicate (size_of r.3) Unset ∙ r.6 in
      let unset : read (t.reg x) new.bytes ≡ Unwritten = ap (λ (i : ℕ). read (t.reg x) (replicate i Unset)) r.6 ∙ unset_read (t.reg x) (reg_size (t.reg x))
      (storable_some (t.reg x) r.2) in
      let here = subst (λ (u : Value). SlotIs entry q (value_of sg a.locals (PoisonOf (t.reg x))) (t.reg x) u) (sym at)
      (new, get_append_new p.right new, unpaired, kept_right entry p k.kept, size, subst (λ (y : Answer). AnswerAgrees p.pairing (length p.left) (Is Poison) y) (sym unset) tt) in
      let there : (y : ℕ) → t.slot y ≡ true → (x ≡ y → ⊥) → SlotIs entry q (value_of sg a.locals (c y)) (t.reg y) (look_up lb y) =
      λ y sy ne. subst (λ (u : Value). SlotIs entry q (value_of sg a.locals (c y)) (t.reg y) u) (sym (bind_beside (Some x) (Some (Pointer (Cell n) 0)) b.locals y
      (λ i. ne (cc i)))) (slot_later entry p q kp (value_of sg a.locals (c y)) (t.reg y) (look_up b.locals y) (k.held y sy)) in
      let h = held_changed entry q x (PoisonOf (t.reg x)) c a.locals lb here there in
      reach_more entry p q a b b' place line rest refl one (go q b' (behind t.reg (Makes x) c) (gone entry p a b c m' k line rest e (Makes x) us (λ i. refl)
      (kept_trans entry p q k.kept kp) lb l (n ∷ b.slots) s h (apart_new p entry a b c k x)) refl)
    where
      apart_new : (p entry : Point) (a b : Frame) (c : Current) → Pro entry p a b c → (x : ℕ) → Apart ((x, Pointer (Cell (length p.right)) 0) ∷ b.locals)
      apart_new p entry a b c k x v w r sv sw ne ev ew = by (cases_eq x v) (cases_eq x w)
        where
          old : (y : ℕ) → (x ≡ y → ⊥) → look_up ((x, Pointer (Cell (length p.right)) 0) ∷ b.locals) y ≡ look_up b.locals y
          old y n = bind_beside (Some x) (Some (Pointer (Cell (length p.right)) 0)) b.locals y (λ i. n (cc i))

          new : (y : ℕ) → x ≡ y → look_up ((x, Pointer (Cell (length p.right)) 0) ∷ b.locals) y ≡ Pointer (Cell r) 0 → length p.right ≡ r
          new y same i =
              let at = ap (λ (t' : Bool). if t' then Pointer (Cell (length p.right)) 0 else look_up b.locals y) (eq-eqb x y same) in
              let both' : Pointer (Cell (length p.right)) 0 ≡ Pointer (Cell r) 0 = sym at ∙ i in
              cc both'

          below : (y : ℕ) → t.slot y ≡ true → look_up b.locals y ≡ Pointer (Cell r) 0 → r < length p.right
          below y s i = slot_within entry p (value_of z.program.signature a.locals (c y)) (t.reg y) (look_up b.locals y) r (k.held y s) i

          by : (x ≡ v) ⊎ (x ≡ v → ⊥) → (x ≡ w) ⊎ (x ≡ w → ⊥) → ⊥
          by (inl i) (inl j) = ne (sym i ∙ j)
          by (inl i) (inr j) = let m = new v i ev in let lt = below w sw (sym (old w j) ∙ ew) in absurd (omega arith)
          by (inr i) (inl j) = let m = new w j ew in let lt = below v sv (sym (old v i) ∙ ev) in absurd (omega arith)
          by (inr i) (inr j) = k.apart v w r sv sw ne (sym (old v i) ∙ ev) (sym (old w j) ∙ ew)

  write_step : (entry p : Point) (a b : Frame) (place : ℕ) (c : Current) → Pro entry p a b c → (line : Line) (rest : List Line) → b.rest ≡ line ∷ rest →
      (x : ℕ) (o : Operand) → t.uses line ≡ Writes x o → GoesThere entry a place rest → Reaches entry p a b place (line ∷ rest)
  write_step entry p a b place c k line rest e x o us go =
      by (store_slot entry p (value_of sg a.locals (c x)) (value_of sg b.locals o) (t.reg x) r.3 (look_up b.locals x) (k.held x r.0))
    where
      sg : Signature
      sg = z.program.signature

      r : LineRight t c (Writes x o) line
      r = (tail_lines b c line rest (Writes x o) k.lines e us).0

      why : Cause
      why = store_cause p.right (t.reg x) (look_up b.locals x)

      acts_so : (y : Option Memory) → store p.right (t.reg x) (value_of sg b.locals o) (look_up b.locals x) r.3 ≡ y → act sg z.input b p.right place 0 ≡ apply
          (record b { rest = rest }) line.local (stores place why y)
      acts_so y is =
          act_at_line sg z.input b p.right place 0 line rest e ∙ ap (λ (i : Instr). apply (record b { rest = rest }) line.local (execute sg z.input p.right place 0
          (evaluate (value_of sg b.locals) i))) r.4 ∙ ap (λ (m : Option Memory). apply (record b { rest = rest }) line.local (stores place why m)) is

      by : (store p.right (t.reg x) (value_of sg b.locals o) (look_up b.locals x) r.3 ≡ None) ⊎ ((n : ℕ) × (xb : MemoryBlock) × (look_up b.locals x ≡ Pointer (Cell n) 0) ×
          (slice_get p.right n ≡ Some xb) × IsUnpaired p n × (length entry.right ≤ n) × (length xb.bytes ≡ reg_size (t.reg x)) ×
          (store p.right (t.reg x) (value_of sg b.locals o) (look_up b.locals x) r.3 ≡ Some
          (slice_set p.right n (record xb { bytes = overwritten xb.bytes 0 (stored_bytes (t.reg x) (value_of sg b.locals o)) })))) → Reaches entry p a b place (line ∷ rest)
      by (inl none) =
          inl (record {
            steps = 1;
            few = omega arith;
            seen = [];
            later = [];
            front = refl;
            failure = record { why = Undefined why; at = place_of b };
            leads = one_step z.program z.input (alone b p.right place) 0 (record { events = []; next = Broken (record { why = Undefined why; at = place_of b }) })
                (ap (advance z.program (place_of b) [] p.right place) (acts_so None none));
          })
      by (inr y) =
          let u = value_of sg b.locals o in
          let n = y.0 in
          let new : MemoryBlock = record y.1 { bytes = overwritten y.1.bytes 0 (stored_bytes (t.reg x) u) } in
          let m' : Memory = slice_set p.right n new in
          let q : Point = record { pairing = p.pairing; left = p.left; right = m' } in
          let b' : Frame = record b { rest = rest; locals = b.locals; slots = b.slots } in
          let is : act sg z.input b p.right place 0 ≡ Goes b' m' place [] =
          acts_so (Some m') y.7 ∙ ap (λ (l : Locals). let w : Act = Goes (record b { rest = rest; locals = l; slots = b.slots }) m' place [] in w)
          (bind_none line.local b.locals) in
          let one = one_step z.program z.input (alone b p.right place) 0 (record { events = []; next = On (alone b' m' place) })
          (ap (advance z.program (place_of b) [] p.right place) is) in
          let kept = right_dead_kept entry p k.kept n y.5 y.4 new in
          let s = kin_right entry p n new a.slots b.slots k.slots in
          let names = names_of z.program formed p (kept_fixes (variables z.program) entry p k.fixes k.kept) in
          let agree = value_of_agrees sg p.pairing (length p.left) names t.keeps a.locals b.locals k.locals o r.1 in
          let same : new.bytes ≡ stored_bytes (t.reg x) u = all_new y.1.bytes (stored_bytes (t.reg x) u) (y.6 ∙ sym (stored_length (t.reg x) u)) in
          let held0 = stands_agrees p.pairing (length p.left) (value_of sg a.locals o) u (read (t.reg x) (stored_bytes (t.reg x) u)) agree (rows.read_back (t.reg x) r.2 u) in
          let held1 = subst (λ (l : List Byte). AnswerAgrees p.pairing (length p.left) (Is (value_of sg a.locals o)) (read (t.reg x) l)) (sym same) held0 in
          let within = slice_get_within p.right n y.1 y.3 in
          let here0 : SlotIs entry q (value_of sg a.locals o) (t.reg x) (Pointer (Cell n) 0) =
          (new, get_set_same p.right n new within, y.4, y.5, ap (λ (l : List Byte). length l) same ∙ stored_length (t.reg x) u, held1) in
          let here = subst (λ (w : Value). SlotIs entry q (value_of sg a.locals o) (t.reg x) w) (sym y.2) here0 in
          let there : (v : ℕ) → t.slot v ≡ true → (x ≡ v → ⊥) → SlotIs entry q (value_of sg a.locals (c v)) (t.reg v) (look_up b.locals v) =
          λ v sv ne. slot_beside entry p n new (value_of sg a.locals (c v)) (t.reg v) (look_up b.locals v) (λ i. k.apart x v n r.0 sv ne y.2 i) (k.held v sv) in
          let h = held_changed entry q x o c a.locals b.locals here there in
          reach_more entry p q a b b' place line rest refl one (go q b' (behind t.reg (Writes x o) c) (gone entry p a b c m' k line rest e (Writes x o) us (λ i. refl) kept
          b.locals k.locals b.slots s h k.apart) refl)

  reach_by : (u : Use) (entry p : Point) (a b : Frame) (place : ℕ) (c : Current) → Pro entry p a b c → (line : Line) (rest : List Line) → b.rest ≡ line ∷ rest →
      t.uses line ≡ u → GoesThere entry a place rest → Reaches entry p a b place (line ∷ rest)
  reach_by (Makes x) entry p a b place c k line rest e us go = make_step entry p a b place c k line rest e x us go
  reach_by (Writes x o) entry p a b place c k line rest e us go = write_step entry p a b place c k line rest e x o us go
  reach_by (Fetches x) entry p a b place c k line rest e us go =
      inr (record {
        point = p;
        left = refl;
        frame = b;
        steps = 0;
        leads = (refl, refl);
        few = omega arith;
        current = c;
        pro = k;
        first = inr (line, rest, e, subst (λ (u : Use). Stays u) (sym us) tt);
      })
  reach_by Other entry p a b place c k line rest e us go =
      inr (record {
        point = p;
        left = refl;
        frame = b;
        steps = 0;
        leads = (refl, refl);
        few = omega arith;
        current = c;
        pro = k;
        first = inr (line, rest, e, subst (λ (u : Use). Stays u) (sym us) tt);
      })

  reach : (rest : List Line) (entry p : Point) (a b : Frame) (place : ℕ) (c : Current) → Pro entry p a b c → b.rest ≡ rest → Reaches entry p a b place rest
  reach [] entry p a b place c k e = inr (record { point = p; left = refl; frame = b; steps = 0; leads = (refl, refl); few = omega arith; current = c; pro = k; first = inl e })
  reach (line ∷ rest) entry p a b place c k e =
      reach_by (t.uses line) entry p a b place c k line rest e refl (λ q b' c' k' e'. reach rest entry q a b' place c' k' e')

  -- ---- one step on both sides

  held_bound : (entry p : Point) (c : Current) (local : Option ℕ) → LocalFree t c local → (v v' : Option Value) (ls rs : Locals) → Held entry p c ls rs →
      Held entry p c (bind local v ls) (bind local v' rs)
  held_bound entry p c None free v v' ls rs h x s = h x s
  held_bound entry p c (Some y) free v v' ls rs h x s =
      let l = operand_beside z.program.signature y v ls (c x) (free.1 x s) in
      let r = bind_beside (Some y) v' rs x (λ i. apart_from t.slot y x free.0 s (cc i)) in
      let a = subst (λ (w : Value). SlotIs entry p w (t.reg x) (look_up rs x)) (sym l) (h x s) in
      subst (λ (w : Value). SlotIs entry p (value_of z.program.signature (bind (Some y) v ls) (c x)) (t.reg x) w) (sym r) a

  apart_bound : (c : Current) (local : Option ℕ) → LocalFree t c local → (v : Option Value) (rs : Locals) → Apart rs → Apart (bind local v rs)
  apart_bound c None free v rs h x y r sx sy ne ex ey = h x y r sx sy ne ex ey
  apart_bound c (Some w) free v rs h x y r sx sy ne ex ey =
      h x y r sx sy ne (sym (bind_beside (Some w) v rs x (λ i. apart_from t.slot w x free.0 sx (cc i))) ∙ ex)
      (sym (bind_beside (Some w) v rs y (λ i. apart_from t.slot w y free.0 sy (cc i))) ∙ ey)

  held_later : (entry p q : Point) → Kept (variables z.program) p q → (c : Current) (ls rs : Locals) → Held entry p c ls rs → Held entry q c ls rs
  held_later entry p q k c ls rs h x s = slot_later entry p q k (value_of z.program.signature ls (c x)) (t.reg x) (look_up rs x) (h x s)

  -- both sides behind an instruction that stays, later
  after : (entry p q : Point) (a b : Frame) (c : Current) → Pro entry p a b c → (line : Line) (rest : List Line) → b.rest ≡ line ∷ rest → LinesRight t c rest →
      ((x : ℕ) → behind_all t c rest x ≡ t.ends b.block x) → LocalFree t c line.local → Kept (variables z.program) p q → (v v' : Option Value) → LocalsAgree t.keeps q.pairing (length q.left)
      (bind line.local v a.locals) (bind line.local v' b.locals) → (ls rs : List ℕ) → SlotsKin entry q ls rs → (o o' : Option ℕ) →
      Pro entry q (record a { rest = lines_promoted t c rest; locals = bind line.local v a.locals; slots = ls; awaits = o })
      (record b { rest = rest; locals = bind line.local v' b.locals; slots = rs; awaits = o' }) c
  after entry p q a b c k line rest e lines ends free kq v v' l ls rs s o o' = record {
    kept = kept_trans entry p q k.kept kq;
    fixes = k.fixes;
    function = k.function;
    function' = k.function';
    block = k.block;
    rest = refl;
    end = k.end;
    locals = l;
    slots = s;
    lines = lines;
    ends_are = ends;
    reads = k.reads;
    targets = k.targets;
    short = let n = ap (λ (x : List Line). length x) e in omega (arith, k.short);
    held = held_bound entry q c line.local free v v' a.locals b.locals (held_later entry p q kq c a.locals b.locals k.held);
    apart = apart_bound c line.local free v' b.locals k.apart;
  }

  -- an instruction that stays, with alike effects
  both_sides : (entry p : Point) (a b : Frame) (place choice choice' : ℕ) (c : Current) → Pro entry p a b c → (line line' : Line) (rest : List Line) →
      line'.local ≡ line.local → a.rest ≡ line' ∷ lines_promoted t c rest → b.rest ≡ line ∷ rest → LinesRight t c rest →
      ((x : ℕ) → behind_all t c rest x ≡ t.ends b.block x) → LocalFree t c line.local → EffectsAlike p (execute z.program.signature z.input p.left place choice
      (evaluate (value_of z.program.signature a.locals) line'.instr)) (execute z.program.signature z.input p.right place choice'
      (evaluate (value_of z.program.signature b.locals) line.instr)) → IsAnswered (bounded z 1) (Holds entry) entry p.left (alone b p.right place)
      (act z.program.signature z.input a p.left place choice)
  both_sides entry p a b place choice choice' c k line line' rest same ea e lines ends free alike =
      let sg = z.program.signature in
      let fix' = kept_fixes (variables z.program) entry p k.fixes k.kept in
      let a' : Frame = record a { rest = lines_promoted t c rest } in
      let b' : Frame = record b { rest = rest } in
      let x = execute sg z.input p.left place choice (evaluate (value_of sg a.locals) line'.instr) in
      let r = answered_effects (bounded z 1) (omega arith) (Holds entry) entry p k.kept fix' a' b b' line.local line.local place choice' x (execute sg z.input p.right place
      choice' (evaluate (value_of sg b.locals) line.instr)) (act_at_line sg z.input b p.right place choice' line rest e) alike
      (λ q v v' slot slot' place' kq agree slots'. holds entry q _ _ place' c (after entry p q a b c k line rest e lines ends free kq v v' (bind_agrees t.keeps q line.local
      v v' a.locals b.locals agree (locals_later p q kq t.keeps a.locals b.locals k.locals)) _ _ (kin_more entry p q k.kept slot slot' a.slots b.slots slots'
      (kin_later entry p q kq a.slots b.slots k.slots)) a.awaits b.awaits))
      (λ q v v' place' kq agree.
      let h = after entry p q a b c k line rest e lines ends free kq v v' (bind_agrees t.keeps q line.local v v' a.locals b.locals agree
      (locals_later p q kq t.keeps a.locals b.locals k.locals)) a.slots b.slots (kin_later entry p q kq a.slots b.slots k.slots) None None in
      let c1 = holds entry q _ _ place' c h in
      let c2 = subst (λ (w : Frame). Holds entry w q.left (alone (record b' { locals = bind line.local v' b.locals; awaits = None }) q.right place'))
      (sym (resume_is (record a' { awaits = line.local }) v)) c1 in
      subst (λ (w : Frame). Holds entry (resume (record a' { awaits = line.local }) v) q.left (alone w q.right place'))
      (sym (resume_is (record b' { awaits = line.local }) v')) c2) in
      let left : act sg z.input a p.left place choice ≡ apply a' line.local x =
      act_at_line sg z.input a p.left place choice line' (lines_promoted t c rest) ea ∙ ap (λ (l : Option ℕ). apply a' l x) same in
      subst (λ (y : Act). IsAnswered (bounded z 1) (Holds entry) entry p.left (alone b p.right place) y) (sym left) r

  at_stays : (u : Use) (entry p : Point) (a b : Frame) (place choice : ℕ) (c : Current) → Pro entry p a b c → (line : Line) (rest : List Line) → b.rest ≡ line ∷ rest →
      t.uses line ≡ u → Stays u → IsAnswered (bounded z 1) (Holds entry) entry p.left (alone b p.right place) (act z.program.signature z.input a p.left place choice)
  at_stays (Makes x) entry p a b place choice c k line rest e us s = absurd s
  at_stays (Writes x o) entry p a b place choice c k line rest e us s = absurd s
  at_stays Other entry p a b place choice c k line rest e us s =
      let sg = z.program.signature in
      let names = names_of z.program formed p (kept_fixes (variables z.program) entry p k.fixes k.kept) in
      let r = tail_lines b c line rest Other k.lines e us in
      let tasks = evaluate_agrees p.pairing (length p.left) (value_of sg a.locals) (value_of sg b.locals) line.instr (reads_agree sg p.pairing (length p.left) names t.keeps
      a.locals b.locals k.locals line.instr r.0.1) in
      let x = execute_alike sg p k.kept.related z.input place choice (evaluate (value_of sg a.locals) line.instr) (evaluate (value_of sg b.locals) line.instr) tasks in
      both_sides entry p a b place choice x.0 c k line line rest refl (tail_rest a b c line rest Other k.rest e us) e r.1 (tail_ends b c line rest Other k.ends_are e us) r.0.0 x.1
  at_stays (Fetches x) entry p a b place choice c k line rest e us s =
      let sg = z.program.signature in
      let r = tail_lines b c line rest (Fetches x) k.lines e us in
      let v = value_of sg a.locals (c x) in
      let loads = slot_load entry p v (t.reg x) r.0.2 (look_up b.locals x) (k.held x r.0.0) in
      let alike = gives_alike p k.kept.related place (Is v) (load p.right (t.reg x) (look_up b.locals x) r.0.2) loads in
      let line' : Line = record { local = line.local; instr = chosen_value (t.reg x) (c x) } in
      let alike' = subst (λ (i : Instr). EffectsAlike p (execute sg z.input p.left place choice (evaluate (value_of sg a.locals) line'.instr))
      (execute sg z.input p.right place 0 (evaluate (value_of sg b.locals) i))) (sym r.0.3) alike in
      both_sides entry p a b place choice 0 c k line line' rest refl (tail_rest a b c line rest (Fetches x) k.rest e us) e r.1 (tail_ends b c line rest (Fetches x)
      k.ends_are e us) r.0.1 alike'

  -- ---- terminators

  held_next : (entry p : Point) (a b : Frame) (c : Current) → Pro entry p a b c → b.rest ≡ [] → (target : ℕ) → IsTarget b.end target → (x : Block) →
      find_block f.blocks target ≡ Some x → ((y : ℕ) → t.slot y ≡ true → is_phi y x.phis ≡ false) → Held entry p (t.starts x.number)
      (phis_bound z.program.signature a.locals b.block (t.news x.number ++ x.phis) a.locals) (phis_bound z.program.signature b.locals b.block x.phis b.locals)
  held_next entry p a b c k e target tg x found free y s =
      let sg = z.program.signature in
      let i = k.targets target x tg found y s in
      let after' = phis_bound sg a.locals b.block (t.news x.number ++ x.phis) a.locals in
      let here : c y ≡ t.ends b.block y = sym (ap (λ (l : List Line). behind_all t c l y) e) ∙ k.ends_are y in
      let v_is : value_of sg a.locals (c y) ≡ value_of sg after' (t.starts x.number y) =
      ap (λ (o : Operand). value_of sg a.locals o) here ∙ sym (phi_value sg a.locals b.block i.0 (t.news x.number ++ x.phis) a.locals (t.ends b.block y) i.2 i.3)
      ∙ ap (λ (o : Operand). value_of sg after' o) (sym i.1) in
      let r_is : look_up b.locals y ≡ look_up (phis_bound sg b.locals b.block x.phis b.locals) y = sym (phi_none sg b.locals b.block y x.phis b.locals (free y s)) in
      let h0 = subst (λ (w : Value). SlotIs entry p w (t.reg y) (look_up b.locals y)) v_is (k.held y s) in
      subst (λ (w : Value). SlotIs entry p (value_of sg after' (t.starts x.number y)) (t.reg y) w) r_is h0

  apart_next : (sg : Signature) (from : ℕ) (ps : List Phi) (rs : Locals) → ((y : ℕ) → t.slot y ≡ true → is_phi y ps ≡ false) → Apart rs → Apart (phis_bound sg rs from ps rs)
  apart_next sg from ps rs free h x y r sx sy ne ex ey =
      h x y r sx sy ne (sym (phi_none sg rs from x ps rs (free x sx)) ∙ ex) (sym (phi_none sg rs from y ps rs (free y sy)) ∙ ey)

  jump : (entry p : Point) (a b : Frame) (place choice target : ℕ) (c : Current) → Pro entry p a b c → b.rest ≡ [] → IsTarget b.end target → (o : Option Block) →
      find_block f.blocks target ≡ o → act z.program.signature z.input b p.right place choice ≡ enters_block z.program.signature b p.right place o →
      IsAnswered (bounded z 1) (Holds entry) entry p.left (alone b p.right place) (jumps z.program.signature a p.left place target)
  jump entry p a b place choice target c k e tg None found is =
      answered_fails (bounded z 1) (Holds entry) entry p.left (alone b p.right place) (breaks_at_once (bounded z 1) (omega arith) b p.right place choice _ is)
      (jumps z.program.signature a p.left place target)
  jump entry p a b place choice target c k e tg (Some x) found is =
      let sg = z.program.signature in
      let names = names_of z.program formed p (kept_fixes (variables z.program) entry p k.fixes k.kept) in
      let known = found_plan t f f.blocks plan.blocks target x found in
      let br = known.0 in
      let ps = t.news x.number ++ x.phis in
      let l0 = news_agree sg p.pairing (length p.left) t.keeps a.locals b.block (t.news x.number) x.phis br.news a.locals (phis_bound sg b.locals b.block x.phis b.locals)
      (phis_agree sg p.pairing (length p.left) names t.keeps a.locals b.locals k.locals b.block x.phis br.phis a.locals b.locals k.locals) in
      let h0 = held_next entry p a b c k e target tg x found br.free in
      let la : Locals = phis_bound sg a.locals b.block ps a.locals in
      let a1 : Frame = record a { block = x.number; rest = lines_promoted t (t.starts x.number) x.lines; end = x.end; locals = la } in
      let b1 : Frame = record b { block = x.number; rest = x.lines; end = x.end; locals = phis_bound sg b.locals b.block x.phis b.locals } in
      let next : Pro entry p a1 b1 (t.starts x.number) = record {
        kept = k.kept;
        fixes = k.fixes;
        function = k.function;
        function' = k.function';
        block = refl;
        rest = refl;
        end = refl;
        locals = l0;
        slots = k.slots;
        lines = br.lines;
        ends_are = br.ends_are;
        reads = br.end;
        targets = br.targets;
        short = br.short;
        held = h0;
        apart = apart_next sg b.block x.phis b.locals br.free k.apart;
      } in
      let r = answered_go (bounded z 1) (omega arith) (Holds entry) entry p a1 b b1 place choice is (holds entry p a1 b1 place (t.starts x.number) next) in
      let here : enters_block sg a p.left place (find_block a.function.blocks target) ≡ Goes a1 p.left place [] =
      ap (λ (g : Function). enters_block sg a p.left place (find_block g.blocks target)) k.function ∙ ap (λ (q : Option Block). enters_block sg a p.left place q) known.1
      ∙ ap (λ (n : ℕ). let w : Act = Goes (record a {
        block = x.number;
        rest = lines_promoted t (t.starts x.number) x.lines;
        end = x.end;
        locals =
            phis_bound sg a.locals n ps a.locals;
      }) p.left place [] in w) k.block in
      subst (λ (w : Act). IsAnswered (bounded z 1) (Holds entry) entry p.left (alone b p.right place) w) (sym here) r

  at_exit : (entry p : Point) (a b : Frame) (place choice : ℕ) (c : Current) → Pro entry p a b c → b.rest ≡ [] → (x y : Exit) →
      exit_of (value_of z.program.signature b.locals) b.end ≡ y → ExitsAgree p x y → act z.program.signature z.input b p.right place choice ≡ exits z.program.signature b
      p.right place y → IsAnswered (bounded z 1) (Holds entry) entry p.left (alone b p.right place) (exits z.program.signature a p.left place x)
  at_exit entry p a b place choice c k e x (Stuck cause) q h is = answered_fails (bounded z 1) (Holds entry) entry p.left (alone b p.right place)
      (breaks_at_once (bounded z 1) (omega arith) b p.right place choice _ is) (exits z.program.signature a p.left place x)
  at_exit entry p a b place choice c k e (Leaves v) (Leaves u) q h is =
      let pt : Point = record { pairing = p.pairing; left = kill a.slots p.left; right = kill b.slots p.right } in
      answered_return (bounded z 1) (omega arith) (Holds entry) entry p pt (kin_killed (variables z.program) b.slots a.slots entry p k.fixes k.kept k.slots) b place choice v u is
      (subst (λ (n : ℕ). AnswersAgree p.pairing n v u) (sym (size a.slots p.left)) h)
    where
      ended_size : (m : Memory) (l : ℕ) (o : Option MemoryBlock) → length (end_life m l o) ≡ length m
      ended_size m l None = refl
      ended_size m l (Some x) = length-set m l (dead x)

      size : (ls : List ℕ) (m : Memory) → length (kill ls m) ≡ length m
      size [] m = refl
      size (l ∷ ls) m = size ls (end_life m l (slice_get m l)) ∙ ended_size m l (slice_get m l)
  at_exit entry p a b place choice c k e (Leads' m) (Leads' n) q h is =
      let sg = z.program.signature in
      let is' : act sg z.input b p.right place choice ≡ enters_block sg b p.right place (find_block f.blocks m) =
      is ∙ ap (λ (i : ℕ). enters_block sg b p.right place (find_block b.function.blocks i)) (sym h)
      ∙ ap (λ (g : Function). enters_block sg b p.right place (find_block g.blocks m)) k.function' in
      let tg = target_in (value_of sg b.locals) b.end m (q ∙ ap (λ (i : ℕ). Leads' i) (sym h)) in
      jump entry p a b place choice m c k e tg (find_block f.blocks m) refl is'
  at_exit entry p a b place choice c k e (Stuck cause) (Leaves u) q h is = absurd h
  at_exit entry p a b place choice c k e (Stuck cause) (Leads' n) q h is = absurd h
  at_exit entry p a b place choice c k e (Leaves v) (Leads' n) q h is = absurd h
  at_exit entry p a b place choice c k e (Leads' m) (Leaves u) q h is = absurd h

  at_first : (entry p : Point) (a b : Frame) (place choice : ℕ) (c : Current) → Pro entry p a b c → (b.rest ≡ []) ⊎ ((line : Line) × (rest' : List Line) ×
      (b.rest ≡ line ∷ rest') × Stays (t.uses line)) → IsAnswered (bounded z 1) (Holds entry) entry p.left (alone b p.right place) (act z.program.signature z.input a
      p.left place choice)
  at_first entry p a b place choice c k (inr x) = at_stays (t.uses x.0) entry p a b place choice c k x.0 x.1 x.2 refl x.3
  at_first entry p a b place choice c k (inl e) =
      let sg = z.program.signature in
      let names = names_of z.program formed p (kept_fixes (variables z.program) entry p k.fixes k.kept) in
      let x = exit_agrees sg p names t.keeps a.locals b.locals k.locals b.end k.reads in
      let r = at_exit entry p a b place choice c k e (exit_of (value_of sg a.locals) b.end) (exit_of (value_of sg b.locals) b.end) refl x (act_at_end sg z.input b p.right
      place choice e) in
      let left : act sg z.input a p.left place choice ≡ exits sg a p.left place (exit_of (value_of sg a.locals) b.end) =
      act_at_end sg z.input a p.left place choice (k.rest ∙ ap (λ (l : List Line). lines_promoted t c l) e)
      ∙ ap (λ (w : Terminator). exits sg a p.left place (exit_of (value_of sg a.locals) w)) k.end in
      subst (λ (y : Act). IsAnswered (bounded z 1) (Holds entry) entry p.left (alone b p.right place) y) (sym left) r

  at_reached : (entry p : Point) (a b : Frame) (place choice : ℕ) (c : Current) → Pro entry p a b c → Reaches entry p a b place b.rest → IsAnswered z (Holds entry) entry
      p.left (alone b p.right place) (act z.program.signature z.input a p.left place choice)
  at_reached entry p a b place choice c k (inl g) =
      answered_fails z (Holds entry) entry p.left (alone b p.right place) (record {
        steps = g.steps;
        few = omega (arith, g.few, k.short, bound);
        seen = g.seen;
        later = g.later;
        front = g.front;
        failure = g.failure;
        leads = g.leads;
      }) (act z.program.signature z.input a p.left place choice)
  at_reached entry p a b place choice c k (inr r) =
      let y = at_first entry r.point a r.frame place choice r.current r.pro r.first in
      let y' = subst (λ (m : Memory). IsAnswered (bounded z 1) (Holds entry) entry m (alone r.frame r.point.right place) (act z.program.signature z.input a m place choice))
      r.left y in
      answered_after z r.steps 1 (omega (arith, r.few, k.short, bound)) (Holds entry) entry p.left (alone b p.right place) (alone r.frame r.point.right place) r.leads refl
      (act z.program.signature z.input a p.left place choice) y'

  step_answered : (entry : Point) (a : Frame) (m : Memory) (s : State) → Holds entry a m s → (choice : ℕ) → IsAnswered z (Holds entry) entry m s
      (act z.program.signature z.input a m s.place choice)
  step_answered entry a m s h choice =
      let p = h.point in
      let r = at_reached entry p a h.frame h.place choice h.current h.pro (reach h.frame.rest entry p a h.frame h.place h.current h.pro refl) in
      let r' = subst (λ (w : Memory). IsAnswered z (Holds entry) entry w (alone h.frame p.right h.place) (act z.program.signature z.input a w h.place choice)) h.left r in
      subst (λ (w : State). IsAnswered z (Holds entry) entry m w (act z.program.signature z.input a m w.place choice)) (sym h.is) r'

  params_agree : (w : Pairing) (n : ℕ) (ps : List Param) (vs us : List Value) → AllAgree w n vs us → LocalsAgree t.keeps w n (params_bound ps vs) (params_bound ps us)
  params_agree w n [] vs us h y kept = tt
  params_agree w n (x ∷ ps) [] [] h y kept = tt
  params_agree w n (x ∷ ps) (v ∷ vs) (u ∷ us) h y kept = if_agrees w n (x.local == y) v (look_up (params_bound ps vs) y) u (look_up (params_bound ps us) y) h.0
      (params_agree w n ps vs us h.1 y kept)
  params_agree w n (x ∷ ps) [] (u ∷ us) h y kept = absurd h
  params_agree w n (x ∷ ps) (v ∷ vs) [] h y kept = absurd h

  -- no slot is made yet
  held_none : (entry p : Point) (c : Current) (ls rs : Locals) → ((x : ℕ) → t.slot x ≡ true → look_up rs x ≡ Poison) → Held entry p c ls rs
  held_none entry p c ls rs none x s = subst (λ (u : Value). SlotIs entry p (value_of z.program.signature ls (c x)) (t.reg x) u) (sym (none x s)) tt

  apart_none : (rs : Locals) → ((x : ℕ) → t.slot x ≡ true → look_up rs x ≡ Poison) → Apart rs
  apart_none rs none x y r sx sy ne ex ey = let n = none x sx in cc (n, ex)

  no_edges : EdgesAre 0 Unreachable
  no_edges n y tg = absurd tg

  enters_pro : (entry : Point) → Related entry → Fixes (variables z.program) entry → (bs : List Block) → PlanBlocks t f bs → (ls rs : Locals) →
      LocalsAgree t.keeps entry.pairing (length entry.left) ls rs → ((x : ℕ) → t.slot x ≡ true → look_up rs x ≡ Poison) → (at : ℕ) →
      Holds entry (enter_at (promoted t f) (blocks_promoted t bs) ls) entry.left (alone (enter_at f bs rs) entry.right at)
  enters_pro entry rel fix [] w ls rs h none at =
      holds entry entry _ _ at (t.ends 0) (record {
        kept = kept_refl entry rel;
        fixes = fix;
        function = refl;
        function' = refl;
        block = refl;
        rest = refl;
        end = refl;
        locals = h;
        slots = refl;
        lines = tt;
        ends_are = λ x. refl;
        reads = tt;
        targets = no_edges;
        short = omega arith;
        held = held_none entry entry (t.ends 0) ls rs
            none;
        apart = apart_none rs none;
      })
  enters_pro entry rel fix (b ∷ bs) w ls rs h none at =
      holds entry entry _ _ at (t.starts b.number) (record {
        kept = kept_refl entry rel;
        fixes = fix;
        function = refl;
        function' = refl;
        block = refl;
        rest = refl;
        end = refl;
        locals = h;
        slots = refl;
        lines = w.0.lines;
        ends_are = w.0.ends_are;
        reads = w.0.end;
        targets = w.0.targets;
        short = w.0.short;
        held = held_none entry entry (t.starts b.number) ls rs none;
        apart = apart_none rs none;
      })

  enter_pro : (entry : Point) → Related entry → Fixes (variables z.program) entry → (vs us : List Value) → ArgumentsAgree entry vs us → (at : ℕ) →
      Holds entry (enter (promoted t f) vs) entry.left (alone (enter f us) entry.right at)
  unfolding enter
  enter_pro entry rel fix vs us h at =
      enters_pro entry rel fix f.blocks plan.blocks (params_bound f.params vs) (params_bound f.params us) (params_agree entry.pairing (length entry.left) f.params vs us h)
      (params_unset t.slot f.params plan.params us) at

pub promoted_is_better : PromotedBetter
promoted_is_better p formed f t plan input n entry vs us place rel fix agree =
    let z : Setting = record { program = p; input = input; bound = t.longest + 1 } in
    near_by z (Holds z formed f t plan (omega arith)) (step_answered z formed f t plan (omega arith)) n entry (enter (promoted t f) vs) entry.left
    (alone (enter f us) entry.right place) (enter_pro z formed f t plan (omega arith) entry rel fix vs us agree place)
