-- A function with a call replaced by the callee's body is better: where the program is inside the callee, the caller's frame waits below.
use Rattle.std.proofs.Common.{◌≡◌, ℕ, ◌+◌, ◌<◌, ◌≤◌, Bool, true, false, ◌==◌, if◌then◌else◌, List, [], ◌∷◌, ◌++◌, length, Option, Some, None, slice_get, ◌⊎◌, inl, inr, refl, sym, ap, ◌∙◌, subst, arith, length-set}
use Rattle.std.proofs.lemmas.Bool.{cases_eq, ne_eqb, eq-eqb, eqb-true}
use Rattle.ir_tree.specs.declared.block.Block.{Block}
use Rattle.ir_tree.specs.declared.block.Terminator.{Terminator}
use Rattle.ir_tree.specs.declared.block.Terminator.TheVariants.{Return, Jump, Branch, Switch, Unreachable}
use Rattle.ir_tree.specs.declared.function.Function.{Function}
use Rattle.ir_tree.specs.declared.function.Param.{Param}
use Rattle.ir_tree.specs.declared.instr.Instr.{Instr}
use Rattle.ir_tree.specs.declared.instr.Instr.TheVariants.{Call}
use Rattle.ir_tree.specs.declared.instr.Line.{Line}
use Rattle.ir_tree.specs.declared.instr.Phi.{Phi}
use Rattle.ir_tree.specs.declared.operand.Argument.{Argument}
use Rattle.ir_tree.specs.declared.operand.Operand.{Operand}
use Rattle.ir_tree.specs.declared.operand.Operand.TheVariants.{Local, Symbol as Named}
use Rattle.ir_tree.specs.declared.operand.Reg.{Reg}
use Rattle.ir_meaning.specs.Operate.{bits_of}
use Rattle.ir_meaning.specs.Act.{Act, Goes, Calls, Gives, with_slot, apply, incoming_value, phis_bound, find_block, enters_block, jumps, case_target, side, Exit, Leaves, Leads', Stuck, by_bits, by_value, answer_of, exit_of, exits, act, params_bound, enter_at, enter, resume}
use Rattle.ir_meaning.specs.Execute.{Task, evaluate, Effect, Asked, Broke, execute, calls_value, calls_kind}
use Rattle.ir_meaning.specs.Fault.{Undefined}
use Rattle.ir_meaning.specs.Frame.{Locals, Frame, Signature, look_up, bind, named, value_of, regs_of, values_of, SymbolKind}
use Rattle.ir_meaning.specs.Memory.{MemoryBlock, Memory, dead, end_life, kill}
use Rattle.ir_meaning.specs.Near.{Setting, Against, IsAnswered}
use Rattle.ir_meaning.specs.Program.{variables, State, On, place_of, Took, go_in, advance, step}
use Rattle.ir_meaning.specs.Relate.{Pairing, Point, Fixes, Related, Kept, Agrees, AllAgree, AnswersAgree, ValuesAgree, ArgumentsAgree}
use Rattle.ir_tree.specs.declared.cause.Cause.TheVariants.{UnreachableReached, CallOfAnotherType}
use Rattle.ir_meaning.specs.declared.value.Value.{Value}
use Rattle.ir_meaning.specs.Formed.{IsFormed}
use Rattle.ir_meaning.specs.Inline.{Site, moved, local_moved, line_moved, lines_moved, phis_moved, end_moved, blocks_moved, return_edges, join_phis, renamed, phis_renamed, block_renamed, blocks_renamed, entry_number, first_part, second_part, inlined_blocks, inlined, below, LinesBelow, BlockBelow, BlocksBelow, IsNoParameter, LinesSparing, ReturnsFor, BlockSparing, CanInline}
use Rattle.ir_meaning.specs.Laws.{InlinedBetter}
use Rattle.ir_meaning.proofs.Alike.Answering.{near_by, answered_return, answered_fails, bind_agrees, EndReads, ExitsAgree, exit_agrees, names_of, act_at_line, act_at_end}
use Rattle.ir_meaning.proofs.Alike.Effects.{value_later, locals_later, TasksAgree, evaluate_agrees, UsesKept, reads_agree, SlotAgrees, execute_alike}
use Rattle.ir_meaning.proofs.Alike.Keeping.{kept_refl, kept_trans, kept_fixes, fixes_right}
use Rattle.ir_meaning.proofs.Alike.Values.{LocalsAgree, AllKept, Names, if_agrees}
use Rattle.ir_meaning.proofs.Inlining.Slots.{SlotsOver, over_later, over_killed, callee_killed}
use Rattle.ir_meaning.proofs.Inlining.Blocks.{found_below, found_sparing, found_first, found_other, found_inside, found_join}
use Rattle.ir_meaning.proofs.Inlining.Values.{evaluate_with, operands_all, CalleeAgrees, value_moved, callee_binds, caller_binds, params_stand, phis_callee, phis_caller, phis_outside, return_value, MovedExit, moved_exit}
use Rattle.ir_meaning.proofs.Alike.Stacks.{stack, stack_breaks, one_answer, stack_effects}

-- ---- the invariant

split_lines : (n : ℕ) (xs : List Line) (y : Line) (ys : List Line) → LinesBelow n (xs ++ y ∷ ys) → UsesKept (below n) y.instr × LinesBelow n ys
split_lines n [] y ys h = h
split_lines n (x ∷ xs) y ys h = split_lines n xs y ys h.1

call_args : (n : ℕ) (i : Instr) (result : Option Reg) (o : Operand) (args : List Argument) → i ≡ Call result o args → UsesKept (below n) i → AllKept (below n) args
call_args n i result o args e h = (subst (λ (x : Instr). UsesKept (below n) x) e h).1

abbrev Where : Site → Terminator → List Line → Terminator → ℕ → List Line → Terminator → ℕ → Type 0
Where t ends ra ea na rb eb nb =
    ((ra ≡ rb) × (ea ≡ eb) × (na ≡ renamed t nb))
    ⊎ ((rb ≡ ra ++ t.call ∷ t.after) × (ea ≡ Jump (entry_number t.body.blocks + t.by)) × (nb ≡ t.block) × (eb ≡ ends))

module _ (z : Setting) (one : 1 ≤ z.bound) (formed : IsFormed z.program) (f : Function) (t : Site) (can : CanInline z.program f t) where
  sig : Signature
  sig = z.program.signature

  call_block : BlockBelow t.by can.block
  call_block = (found_below t.by f.blocks can.caller t.block can.block can.found).1

  call_number : can.block.number ≡ t.block
  call_number = (found_below t.by f.blocks can.caller t.block can.block can.found).0

  split : UsesKept (below t.by) t.call.instr × LinesBelow t.by t.after
  split = split_lines t.by t.before t.call t.after (subst (λ (l : List Line). LinesBelow t.by l) can.lines call_block.lines)

  args_kept : AllKept (below t.by) t.arguments
  args_kept = call_args t.by t.call.instr t.result (Named t.callee 0) t.arguments can.calls split.0

  record Outside (entry p : Point) (a b : Frame) : Type 0 where
    kept : Kept (variables z.program) entry p
    fixes : Fixes (variables z.program) entry
    function : a.function ≡ inlined t f
    function' : b.function ≡ f
    small : b.block < t.by
    locals : LocalsAgree (below t.by) p.pairing (length p.left) a.locals b.locals
    slots : SlotsOver (variables z.program) p a.slots b.slots
    lines : LinesBelow t.by b.rest
    reads : EndReads (below t.by) b.end
    place : Where t can.block.end a.rest a.end a.block b.rest b.end b.block

  record Inside (entry p : Point) (a c b : Frame) : Type 0 where
    kept : Kept (variables z.program) entry p
    fixes : Fixes (variables z.program) entry
    function : a.function ≡ inlined t f
    function_c : c.function ≡ t.body
    function_b : b.function ≡ f
    block : a.block ≡ c.block + t.by
    rest : a.rest ≡ lines_moved t c.rest
    end : a.end ≡ end_moved t c.end
    locals : LocalsAgree (below t.by) p.pairing (length p.left) a.locals b.locals
    callee : CalleeAgrees z.program.signature t p.pairing (length p.left) a.locals c.locals
    slots : SlotsOver (variables z.program) p a.slots (c.slots ++ b.slots)
    lines : LinesSparing t c.rest
    returns : ReturnsFor t c.end
    found : (x : Block) × (find_block t.body.blocks c.block ≡ Some x) × (c.end ≡ x.end)
    b_rest : b.rest ≡ t.after
    b_end : b.end ≡ can.block.end
    b_block : b.block ≡ t.block
    b_awaits : b.awaits ≡ t.call.local

  record OutHolds (entry : Point) (a : Frame) (m : Memory) (s : State) : Type 0 where
    point : Point
    left : point.left ≡ m
    frame : Frame
    at : ℕ
    is : s ≡ stack frame [] point.right at
    out : Outside entry point a frame

  record InHolds (entry : Point) (a : Frame) (m : Memory) (s : State) : Type 0 where
    point : Point
    left : point.left ≡ m
    frame : Frame
    caller : Frame
    at : ℕ
    is : s ≡ stack frame (caller ∷ []) point.right at
    into : Inside entry point a frame caller

  abbrev Holds : Point → Against
  Holds entry a m s = OutHolds entry a m s ⊎ InHolds entry a m s

  out_holds : (entry p : Point) (a b : Frame) (at : ℕ) → Outside entry p a b → Holds entry a p.left (stack b [] p.right at)
  out_holds entry p a b at o = inl (record { point = p; left = refl; frame = b; at = at; is = refl; out = o })

  in_holds : (entry p : Point) (a c b : Frame) (at : ℕ) → Inside entry p a c b → Holds entry a p.left (stack c (b ∷ []) p.right at)
  in_holds entry p a c b at i = inr (record { point = p; left = refl; frame = c; caller = b; at = at; is = refl; into = i })

  no_variable : (p q : Point) → Fixes (variables z.program) p → (l r : ℕ) → SlotAgrees p q (Some l) (Some r) → variables z.program ≤ r
  no_variable p q fix l r a = omega (arith, fixes_right (variables z.program) p fix, a.2)

  slots_more : (p q : Point) → Fixes (variables z.program) p → (slot slot' : Option ℕ) (ls rs : List ℕ) → SlotAgrees p q slot slot' →
      SlotsOver (variables z.program) q ls rs → SlotsOver (variables z.program) q (with_slot slot ls) (with_slot slot' rs)
  slots_more p q fix None None ls rs a h = h
  slots_more p q fix (Some l) (Some r) ls rs a h = (a.0, inl (r, rs, refl, a.1, no_variable p q fix l r a, h))
  slots_more p q fix None (Some r) ls rs a h = absurd a
  slots_more p q fix (Some l) None ls rs a h = absurd a

  more_inside : (p q : Point) → Fixes (variables z.program) p → (slot slot' : Option ℕ) (ls cs bs : List ℕ) → SlotAgrees p q slot slot' →
      SlotsOver (variables z.program) q ls (cs ++ bs) → SlotsOver (variables z.program) q (with_slot slot ls) (with_slot slot' cs ++ bs)
  more_inside p q fix None None ls cs bs a h = h
  more_inside p q fix (Some l) (Some r) ls cs bs a h = (a.0, inl (r, cs ++ bs, refl, a.1, no_variable p q fix l r a, h))
  more_inside p q fix None (Some r) ls cs bs a h = absurd a
  more_inside p q fix (Some l) None ls cs bs a h = absurd a

  -- ---- outside the callee

  resumed_outside : (entry p : Point) (a b : Frame) → Outside entry p a b → a.awaits ≡ b.awaits → (v u : Option Value) → ValuesAgree p v u →
      Outside entry p (resume a v) (resume b u)
  unfolding resume
  resumed_outside entry p a b o w v u agree = record {
    kept = o.kept;
    fixes = o.fixes;
    function = o.function;
    function' = o.function';
    small = o.small;
    locals = subst (λ (i : Option ℕ). LocalsAgree (below t.by) p.pairing (length p.left) (bind a.awaits v a.locals) (bind i u b.locals)) w
        (bind_agrees (below t.by) p a.awaits v u a.locals b.locals agree o.locals);
    slots = o.slots;
    lines = o.lines;
    reads = o.reads;
    place = o.place;
  }

  behind : (entry p q : Point) (a b : Frame) (line : Line) (ra rb : List Line) → Outside entry p a b → b.rest ≡ line ∷ rb → Where t can.block.end ra a.end a.block rb b.end
      b.block → Kept (variables z.program) p q → (la lb : Locals) → LocalsAgree (below t.by) q.pairing (length q.left) la lb → (ls rs : List ℕ) → SlotsOver (variables z.program) q ls rs → (i j : Option ℕ) →
      Outside entry q (record a { rest = ra; locals = la; slots = ls; awaits = i }) (record b { rest = rb; locals = lb; slots = rs; awaits = j })
  behind entry p q a b line ra rb o e w kq la lb l ls rs s i j = record {
    kept = kept_trans entry p q o.kept kq;
    fixes = o.fixes;
    function = o.function;
    function' = o.function';
    small = o.small;
    locals = l;
    slots = s;
    lines = (subst (λ (x : List Line). LinesBelow t.by x) e o.lines).1;
    reads = o.reads;
    place = w;
  }

  -- an instruction of the caller
  outside_line : (entry p : Point) (a b : Frame) (at choice : ℕ) → Outside entry p a b → (line : Line) (ra rb : List Line) → a.rest ≡ line ∷ ra → b.rest ≡ line ∷ rb →
      Where t can.block.end ra a.end a.block rb b.end b.block → IsAnswered z (Holds entry) entry p.left (stack b [] p.right at) (act z.program.signature z.input a p.left at
      choice)
  outside_line entry p a b at choice o line ra rb ea eb w =
      let sg = z.program.signature in
      let fix' = kept_fixes (variables z.program) entry p o.fixes o.kept in
      let names = names_of z.program formed p fix' in
      let reads = (subst (λ (x : List Line). LinesBelow t.by x) eb o.lines).0 in
      let tasks = evaluate_agrees p.pairing (length p.left) (value_of sg a.locals) (value_of sg b.locals) line.instr (reads_agree sg p.pairing (length p.left) names
      (below t.by) a.locals b.locals o.locals line.instr reads) in
      let x = execute_alike sg p o.kept.related z.input at choice (evaluate (value_of sg a.locals) line.instr) (evaluate (value_of sg b.locals) line.instr) tasks in
      let a' : Frame = record a { rest = ra } in
      let b' : Frame = record b { rest = rb } in
      let r = stack_effects z one (Holds entry) entry p o.kept fix' a' b b' [] line.local line.local at x.0 (execute sg z.input p.left at choice
      (evaluate (value_of sg a.locals) line.instr)) (execute sg z.input p.right at x.0 (evaluate (value_of sg b.locals) line.instr)) (act_at_line sg z.input b p.right
      at x.0 line rb eb) x.1
      (λ q v v' slot slot' at' k' agree slots'. out_holds entry q _ _ at' (behind entry p q a b line ra rb o eb w k' _ _ (bind_agrees (below t.by) q line.local v v'
      a.locals b.locals agree (locals_later p q k' (below t.by) a.locals b.locals o.locals)) _ _ (slots_more p q fix' slot slot' a.slots b.slots slots'
      (over_later p q k' a.slots b.slots o.slots)) a.awaits b.awaits))
      (λ q v v' at' k' agree. out_holds entry q _ _ at' (resumed_outside entry q (record a' { awaits = line.local }) (record b' { awaits = line.local })
      (behind entry p q a b line ra rb o eb w k' a.locals b.locals (locals_later p q k' (below t.by) a.locals b.locals o.locals) a.slots b.slots
      (over_later p q k' a.slots b.slots o.slots) line.local line.local) refl v v' agree)) in
      subst (λ (y : Act). IsAnswered z (Holds entry) entry p.left (stack b [] p.right at) y) (sym (act_at_line sg z.input a p.left at choice line ra ea)) r

  -- a jump of the caller
  block_is_before : (y : Block) → y ≡ can.block → y.lines ≡ t.before ++ t.call ∷ t.after
  block_is_before y e = ap (λ (x : Block). x.lines) e ∙ can.lines

  outside_jump : (entry p : Point) (a b : Frame) (at choice target : ℕ) → Outside entry p a b → a.block ≡ renamed t b.block → (o : Option Block) →
      find_block f.blocks target ≡ o → act z.program.signature z.input b p.right at choice ≡ enters_block z.program.signature b p.right at o →
      IsAnswered z (Holds entry) entry p.left (stack b [] p.right at) (jumps z.program.signature a p.left at target)
  outside_jump entry p a b at choice target o na None found e =
      answered_fails z (Holds entry) entry p.left (stack b [] p.right at) (stack_breaks z one b [] p.right at choice _ e) (jumps z.program.signature a p.left at target)
  outside_jump entry p a b at choice target o na (Some x) found e =
      by (cases_eq target t.block)
    where
      sg : Signature
      sg = z.program.signature

      names : Names sg p.pairing (length p.left)
      names = names_of z.program formed p (kept_fixes (variables z.program) entry p o.fixes o.kept)

      known : (x.number ≡ target) × BlockBelow t.by x
      known = found_below t.by f.blocks can.caller target x found

      phis : LocalsAgree (below t.by) p.pairing (length p.left) (phis_bound z.program.signature a.locals a.block (phis_renamed t x.phis) a.locals)
          (phis_bound z.program.signature b.locals b.block x.phis b.locals)
      phis =
          let l = phis_outside z.program.signature t can.join p.pairing (length p.left) (names_of z.program formed p (kept_fixes (variables z.program) entry p o.fixes
          o.kept)) a.locals b.locals o.locals b.block o.small x.phis known.1.phis a.locals b.locals o.locals in
          subst (λ (n : ℕ). LocalsAgree (below t.by) p.pairing (length p.left) (phis_bound z.program.signature a.locals n (phis_renamed t x.phis) a.locals)
          (phis_bound z.program.signature b.locals b.block x.phis b.locals)) (sym na) l

      b1 : Frame
      b1 = record b { block = x.number; rest = x.lines; end = x.end; locals = phis_bound z.program.signature b.locals b.block x.phis b.locals }

      stepped : step z.program z.input (stack b [] p.right at) choice ≡ record {
        events = [];
        next = On (stack (record b { block = x.number; rest = x.lines; end = x.end; locals = phis_bound z.program.signature b.locals b.block x.phis b.locals }) []
            p.right at);
      }
      stepped = ap (advance z.program (place_of b) [] p.right at) e

      small : x.number < t.by
      small = known.1.number

      goes : (y : Block) → find_block (inlined_blocks t f.blocks) target ≡ Some y → Outside entry p (record a {
        block = y.number;
        rest = y.lines;
        end = y.end;
        locals =
            phis_bound z.program.signature a.locals a.block y.phis a.locals;
      }) (record b {
        block = x.number;
        rest = x.lines;
        end = x.end;
        locals =
            phis_bound z.program.signature b.locals b.block x.phis b.locals;
      }) → IsAnswered z (Holds entry) entry p.left (stack b [] p.right at)
          (jumps z.program.signature a p.left at target)
      goes y at' out =
          let a1 : Frame = record a { block = y.number; rest = y.lines; end = y.end; locals = phis_bound z.program.signature a.locals a.block y.phis a.locals } in
          let r = one_answer z one (Holds entry) entry p.left (stack b [] p.right at) (stack (record b {
            block = x.number;
            rest = x.lines;
            end = x.end;
            locals =
                phis_bound z.program.signature b.locals b.block x.phis b.locals;
          }) [] p.right at) choice stepped a1 p.left at refl
          (out_holds entry p a1 (record b { block = x.number; rest = x.lines; end = x.end; locals = phis_bound z.program.signature b.locals b.block x.phis b.locals })
          at out) in
          let is : enters_block z.program.signature a p.left at (find_block a.function.blocks target) ≡ Goes a1 p.left at [] =
          ap (λ (g : Function). enters_block z.program.signature a p.left at (find_block g.blocks target)) o.function
          ∙ ap (λ (q : Option Block). enters_block z.program.signature a p.left at q) at' in
          subst (λ (w : Act). IsAnswered z (Holds entry) entry p.left (stack b [] p.right at) w) (sym is) r

      by : (target ≡ t.block) ⊎ (target ≡ t.block → ⊥) → IsAnswered z (Holds entry) entry p.left (stack b [] p.right at) (jumps z.program.signature a p.left at target)
      by (inl same) =
          let here : find_block f.blocks t.block ≡ Some x = ap (λ (n : ℕ). find_block f.blocks n) (sym same) ∙ found in
          let is : x ≡ can.block = cc (here, can.found) in
          let at' : find_block (inlined_blocks t f.blocks) target ≡ Some (first_part t x) = ap (λ (n : ℕ). find_block (inlined_blocks t f.blocks) n) same
          ∙ found_first t f.blocks x here in
          goes (first_part t x) at' (record {
            kept = o.kept;
            fixes = o.fixes;
            function = o.function;
            function' = o.function';
            small = small;
            locals = phis;
            slots = o.slots;
            lines = known.1.lines;
            reads = known.1.end;
            place = inr (block_is_before x is, refl, known.0 ∙ same, ap (λ (w : Block). w.end) is);
          })
      by (inr other) =
          let lt : target < t.by = omega (arith, known.0, small) in
          let at' = found_other t f.blocks can.join target x lt other found in
          let ne : x.number ≡ t.block → ⊥ = λ s. other (sym known.0 ∙ s) in
          let na' : x.number ≡ renamed t x.number = sym (ap (λ (v : Bool). if v then t.join else x.number) (ne_eqb x.number t.block ne)) in
          goes (block_renamed t x) at' (record {
            kept = o.kept;
            fixes = o.fixes;
            function = o.function;
            function' = o.function';
            small = small;
            locals = phis;
            slots = o.slots;
            lines = known.1.lines;
            reads = known.1.end;
            place = inl (refl, refl, na');
          })

  -- a return or a jump of the caller
  outside_exit : (entry p : Point) (a b : Frame) (at choice : ℕ) → Outside entry p a b → a.block ≡ renamed t b.block → (x y : Exit) → ExitsAgree p x y →
      act z.program.signature z.input b p.right at choice ≡ exits z.program.signature b p.right at y → IsAnswered z (Holds entry) entry p.left (stack b [] p.right at)
      (exits z.program.signature a p.left at x)
  outside_exit entry p a b at choice o na x (Stuck cause) h e = answered_fails z (Holds entry) entry p.left (stack b [] p.right at) (stack_breaks z one b [] p.right at
      choice _ e) (exits z.program.signature a p.left at x)
  outside_exit entry p a b at choice o na (Leaves v) (Leaves u) h e =
      let q : Point = record { pairing = p.pairing; left = kill a.slots p.left; right = kill b.slots p.right } in
      answered_return z one (Holds entry) entry p q (over_killed (variables z.program) a.slots b.slots entry p o.kept o.slots) b at choice v u e (returned v u h)
    where
      ended : (m : Memory) (l : ℕ) (o : Option MemoryBlock) → length (end_life m l o) ≡ length m
      ended m l None = refl
      ended m l (Some x) = length-set m l (dead x)

      size : (ls : List ℕ) (m : Memory) → length (kill ls m) ≡ length m
      size [] m = refl
      size (l ∷ ls) m = size ls (end_life m l (slice_get m l)) ∙ ended m l (slice_get m l)

      returned : (v u : Option Value) → ValuesAgree p v u → AnswersAgree p.pairing (length (kill a.slots p.left)) v u
      returned v u h' = subst (λ (n : ℕ). AnswersAgree p.pairing n v u) (sym (size a.slots p.left)) h'
  outside_exit entry p a b at choice o na (Leads' m) (Leads' n) h e =
      let sg = z.program.signature in
      let e' : act sg z.input b p.right at choice ≡ enters_block sg b p.right at (find_block f.blocks m) =
      e ∙ ap (λ (i : ℕ). enters_block sg b p.right at (find_block b.function.blocks i)) (sym h)
      ∙ ap (λ (g : Function). enters_block sg b p.right at (find_block g.blocks m)) o.function' in
      outside_jump entry p a b at choice m o na (find_block f.blocks m) refl e'
  outside_exit entry p a b at choice o na (Stuck cause) (Leaves u) h e = absurd h
  outside_exit entry p a b at choice o na (Stuck cause) (Leads' n) h e = absurd h
  outside_exit entry p a b at choice o na (Leaves v) (Leads' n) h e = absurd h
  outside_exit entry p a b at choice o na (Leads' m) (Leaves u) h e = absurd h

  -- ---- the call

  call_effect : (b : Frame) (memory : Memory) (at choice : ℕ) → execute z.program.signature z.input memory at choice (evaluate (value_of z.program.signature b.locals)
      t.call.instr) ≡ Asked t.callee (values_of (value_of z.program.signature b.locals) t.arguments)
  call_effect b memory at choice =
      let sg = z.program.signature in
      let value = value_of sg b.locals in
      let vs = values_of value t.arguments in
      let regs = regs_of t.arguments in
      ap (λ (i : Instr). execute sg z.input memory at choice (evaluate value i)) can.calls
      ∙ ap (λ (k : SymbolKind). calls_value sg z.input memory at t.result regs vs (named k t.callee 0)) can.kind
      ∙ ap (λ (k : SymbolKind). calls_kind k t.callee z.input memory at t.result regs vs) can.kind
      ∙ ap (λ (x : Bool). if x then Asked t.callee vs else Broke (Undefined CallOfAnotherType)) can.type_is

  entered : List Value → Frame
  entered vs = record {
    function = t.body;
    block = can.entry.number;
    rest = can.entry.lines;
    end = can.entry.end;
    locals = params_bound t.body.params vs;
    slots = [];
    awaits = None;
  }

  enter_is : (vs : List Value) → enter t.body vs ≡ record {
    function = t.body;
    block = can.entry.number;
    rest = can.entry.lines;
    end = can.entry.end;
    locals =
        params_bound t.body.params vs;
    slots = [];
    awaits = None;
  }
  unfolding enter
  enter_is vs = ap (λ (bs : List Block). enter_at t.body bs (params_bound t.body.params vs)) can.blocks

  entry_found : find_block t.body.blocks can.entry.number ≡ Some can.entry
  entry_found = ap (λ (bs : List Block). find_block bs can.entry.number) can.blocks ∙ ap (λ (x : Bool). if x then Some can.entry else find_block can.others
      can.entry.number) (eq-eqb can.entry.number can.entry.number refl)

  entry_sparing : BlockSparing t can.entry
  entry_sparing = (found_sparing t t.body.blocks can.callee can.entry.number can.entry entry_found).1

  outside_call : (entry p : Point) (a b : Frame) (at choice : ℕ) → Outside entry p a b → a.rest ≡ [] → b.rest ≡ t.call ∷ t.after →
      a.end ≡ Jump (entry_number t.body.blocks + t.by) → b.block ≡ t.block → b.end ≡ can.block.end → IsAnswered z (Holds entry) entry p.left (stack b [] p.right at)
      (act z.program.signature z.input a p.left at choice)
  outside_call entry p a b at choice o ea eb end_a nb end_b =
      subst (λ (w : Act). IsAnswered z (Holds entry) entry p.left (stack b [] p.right at) w) (sym left_act) r
    where
      vs : List Value
      vs = values_of (value_of z.program.signature b.locals) t.arguments

      b1 : Frame
      b1 = record b { rest = t.after; awaits = t.call.local }

      right_act : act z.program.signature z.input b p.right at 0 ≡ Calls t.callee (values_of (value_of z.program.signature b.locals) t.arguments)
          (record b { rest = t.after; awaits = t.call.local })
      right_act = act_at_line z.program.signature z.input b p.right at 0 t.call t.after eb ∙ ap (λ (y : Effect). apply (record b { rest = t.after }) t.call.local y)
          (call_effect b p.right at 0)

      c1 : Frame
      c1 = record { function = t.body; block = can.entry.number; rest = can.entry.lines; end = can.entry.end; locals = params_bound t.body.params vs; slots = []; awaits = None }

      right_step : step z.program z.input (stack b [] p.right at) 0 ≡ record { events = []; next = On (stack c1 (b1 ∷ []) p.right at) }
      right_step =
          ap (advance z.program (place_of b) [] p.right at) right_act
          ∙ ap (λ (g : Option Function). let w : Took = record { events = []; next = go_in (place_of b) g vs (b1 ∷ []) p.right at } in w) can.code
          ∙ ap (λ (c : Frame). let w : Took = record { events = []; next = On (stack c (b1 ∷ []) p.right at) } in w) (enter_is vs)

      a1 : Frame
      a1 = record a { block = can.entry.number + t.by; rest = lines_moved t can.entry.lines; end = end_moved t can.entry.end; locals = a.locals }

      number : entry_number t.body.blocks ≡ can.entry.number
      number = ap entry_number can.blocks

      left_act : act z.program.signature z.input a p.left at choice ≡ Goes a1 p.left at []
      left_act =
          act_at_end z.program.signature z.input a p.left at choice ea
          ∙ ap (λ (e : Terminator). exits z.program.signature a p.left at (exit_of (value_of z.program.signature a.locals) e)) end_a
          ∙ ap (λ (n : ℕ). enters_block z.program.signature a p.left at (find_block a.function.blocks (n + t.by))) number
          ∙ ap (λ (g : Function). enters_block z.program.signature a p.left at (find_block g.blocks (can.entry.number + t.by))) o.function
          ∙ ap (λ (q : Option Block). enters_block z.program.signature a p.left at q) (found_inside t f.blocks can.block can.caller can.found can.entry.number can.entry
          entry_found)
          ∙ ap (λ (ps : List Phi). let w : Act = Goes (record a {
            block = can.entry.number + t.by;
            rest = lines_moved t can.entry.lines;
            end = end_moved t can.entry.end;
            locals = phis_bound z.program.signature a.locals a.block (phis_moved t ps) a.locals;
          }) p.left at [] in w) can.no_phis

      into : Inside entry p a1 c1 b1
      into = record {
        kept = o.kept;
        fixes = o.fixes;
        function = o.function;
        function_c = refl;
        function_b = o.function';
        block = refl;
        rest = refl;
        end = refl;
        locals = o.locals;
        callee = params_stand z.program.signature p.pairing (length p.left) (names_of z.program formed p (kept_fixes (variables z.program) entry p o.fixes o.kept)) t.by
            a.locals b.locals o.locals t.body.params t.arguments args_kept;
        slots = o.slots;
        lines = entry_sparing.lines;
        returns = entry_sparing.end;
        found = (can.entry, entry_found, refl);
        b_rest = refl;
        b_end = end_b;
        b_block = nb;
        b_awaits = refl;
      }

      r : IsAnswered z (Holds entry) entry p.left (stack b [] p.right at) (Goes a1 p.left at [])
      r = one_answer z one (Holds entry) entry p.left (stack b [] p.right at) (stack c1 (b1 ∷ []) p.right at) 0 right_step a1 p.left at refl (in_holds entry p a1 c1 b1 at into)

  -- a state outside is answered
  outside_by : (entry p : Point) (a b : Frame) (at choice : ℕ) → Outside entry p a b → (ra : List Line) → a.rest ≡ ra → Where t can.block.end ra a.end a.block b.rest b.end
      b.block → IsAnswered z (Holds entry) entry p.left (stack b [] p.right at) (act z.program.signature z.input a p.left at choice)
  outside_by entry p a b at choice o [] e (inr w) = outside_call entry p a b at choice o e w.0 w.1 w.2 w.3
  outside_by entry p a b at choice o (line ∷ ra) e (inr w) = outside_line entry p a b at choice o line ra (ra ++ t.call ∷ t.after) e w.0 (inr (refl, w.1, w.2, w.3))
  outside_by entry p a b at choice o (line ∷ ra) e (inl w) = outside_line entry p a b at choice o line ra ra e (sym w.0) (inl (refl, w.1, w.2))
  outside_by entry p a b at choice o [] e (inl w) =
      let sg = z.program.signature in
      let names = names_of z.program formed p (kept_fixes (variables z.program) entry p o.fixes o.kept) in
      let reads = subst (λ (x : Terminator). EndReads (below t.by) x) (sym w.1) o.reads in
      let x = exit_agrees sg p names (below t.by) a.locals b.locals o.locals a.end reads in
      let x' = subst (λ (y : Terminator). ExitsAgree p (exit_of (value_of sg a.locals) a.end) (exit_of (value_of sg b.locals) y)) w.1 x in
      let r = outside_exit entry p a b at choice o w.2 (exit_of (value_of sg a.locals) a.end) (exit_of (value_of sg b.locals) b.end) x' (act_at_end sg z.input b p.right at
      choice (sym w.0)) in
      subst (λ (y : Act). IsAnswered z (Holds entry) entry p.left (stack b [] p.right at) y) (sym (act_at_end sg z.input a p.left at choice e)) r

  -- ---- inside the callee

  resumed_inside : (entry p : Point) (a c b : Frame) → Inside entry p a c b → a.awaits ≡ local_moved t.by c.awaits → IsNoParameter t c.awaits → (v u : Option Value) →
      ValuesAgree p v u → Inside entry p (resume a v) (resume c u) b
  unfolding resume
  resumed_inside entry p a c b i w spare v u agree = record {
    kept = i.kept;
    fixes = i.fixes;
    function = i.function;
    function_c = i.function_c;
    function_b = i.function_b;
    block = i.block;
    rest = i.rest;
    end = i.end;
    locals = subst (λ (o : Option ℕ). LocalsAgree (below t.by) p.pairing (length p.left) (bind o v a.locals) b.locals) (sym w) (caller_binds t.by p.pairing (length p.left)
        c.awaits v a.locals b.locals i.locals);
    callee = subst (λ (o : Option ℕ). CalleeAgrees z.program.signature t p.pairing (length p.left) (bind o v a.locals) (bind c.awaits u c.locals)) (sym w)
        (callee_binds z.program.signature t p.pairing (length p.left) args_kept c.awaits spare v u agree a.locals c.locals i.callee);
    slots = i.slots;
    lines = i.lines;
    returns = i.returns;
    found = i.found;
    b_rest = i.b_rest;
    b_end = i.b_end;
    b_block = i.b_block;
    b_awaits = i.b_awaits;
  }

  callee_later : (p q : Point) → Kept (variables z.program) p q → (ls cs : Locals) → CalleeAgrees z.program.signature t p.pairing (length p.left) ls cs → CalleeAgrees z.program.signature t
      q.pairing (length q.left) ls cs
  callee_later p q k ls cs h x = value_later p q k (value_of z.program.signature ls (moved t (Local x))) (look_up cs x) (h x)

  behind_inside : (entry p q : Point) (a c b : Frame) (rest : List Line) → Inside entry p a c b → LinesSparing t rest → Kept (variables z.program) p q → (la lc : Locals) →
      LocalsAgree (below t.by) q.pairing (length q.left) la b.locals → CalleeAgrees z.program.signature t q.pairing (length q.left) la lc → (ls rs : List ℕ) →
      SlotsOver (variables z.program) q ls (rs ++ b.slots) → (i j : Option ℕ) → Inside entry q (record a { rest = lines_moved t rest; locals = la; slots = ls; awaits = i })
      (record c { rest = rest; locals = lc; slots = rs; awaits = j }) b
  behind_inside entry p q a c b rest i sparing kq la lc l cl ls rs s o o' = record {
    kept = kept_trans entry p q i.kept kq;
    fixes = i.fixes;
    function = i.function;
    function_c = i.function_c;
    function_b = i.function_b;
    block = i.block;
    rest = refl;
    end = i.end;
    locals = l;
    callee = cl;
    slots = s;
    lines = sparing;
    returns = i.returns;
    found = i.found;
    b_rest = i.b_rest;
    b_end = i.b_end;
    b_block = i.b_block;
    b_awaits = i.b_awaits;
  }

  inside_line : (entry p : Point) (a c b : Frame) (at choice : ℕ) → Inside entry p a c b → (line : Line) (rest : List Line) → c.rest ≡ line ∷ rest →
      IsAnswered z (Holds entry) entry p.left (stack c (b ∷ []) p.right at) (act z.program.signature z.input a p.left at choice)
  inside_line entry p a c b at choice i line rest e =
      let sg = z.program.signature in
      let fix' = kept_fixes (variables z.program) entry p i.fixes i.kept in
      let names = names_of z.program formed p fix' in
      let ea : a.rest ≡ line_moved t line ∷ lines_moved t rest = i.rest ∙ ap (λ (l : List Line). lines_moved t l) e in
      let sparing = subst (λ (l : List Line). LinesSparing t l) e i.lines in
      let tasks0 = evaluate_agrees p.pairing (length p.left) (λ o. value_of sg a.locals (moved t o)) (value_of sg c.locals) line.instr
      (operands_all p.pairing (length p.left) (λ o. value_of sg a.locals (moved t o)) (value_of sg c.locals) (value_moved sg t p.pairing (length p.left) names a.locals
      c.locals i.callee) line.instr) in
      let tasks = subst (λ (k : Task). TasksAgree p.pairing (length p.left) k (evaluate (value_of sg c.locals) line.instr))
      (sym (evaluate_with (moved t) (value_of sg a.locals) line.instr)) tasks0 in
      let x = execute_alike sg p i.kept.related z.input at choice (evaluate (value_of sg a.locals) (line_moved t line).instr) (evaluate (value_of sg c.locals) line.instr) tasks in
      let a' : Frame = record a { rest = lines_moved t rest } in
      let c' : Frame = record c { rest = rest } in
      let r = stack_effects z one (Holds entry) entry p i.kept fix' a' c c' (b ∷ []) (local_moved t.by line.local) line.local at x.0 (execute sg z.input p.left at choice
      (evaluate (value_of sg a.locals) (line_moved t line).instr)) (execute sg z.input p.right at x.0 (evaluate (value_of sg c.locals) line.instr))
      (act_at_line sg z.input c p.right at x.0 line rest e) x.1
      (λ q v v' slot slot' at' k' agree slots'. in_holds entry q _ _ b at' (behind_inside entry p q a c b rest i sparing.1 k' _ _
      (caller_binds t.by q.pairing (length q.left) line.local v a.locals b.locals (locals_later p q k' (below t.by) a.locals b.locals i.locals))
      (callee_binds sg t q.pairing (length q.left) args_kept line.local sparing.0 v v' agree a.locals c.locals (callee_later p q k' a.locals c.locals i.callee)) _ _
      (more_inside p q fix' slot slot' a.slots c.slots b.slots slots' (over_later p q k' a.slots (c.slots ++ b.slots) i.slots)) a.awaits c.awaits))
      (λ q v v' at' k' agree. in_holds entry q _ _ b at' (resumed_inside entry q (record a' { awaits = local_moved t.by line.local }) (record c' { awaits = line.local }) b
      (behind_inside entry p q a c b rest i sparing.1 k' a.locals c.locals (locals_later p q k' (below t.by) a.locals b.locals i.locals)
      (callee_later p q k' a.locals c.locals i.callee) a.slots c.slots (over_later p q k' a.slots (c.slots ++ b.slots) i.slots) (local_moved t.by line.local)
      line.local) refl sparing.0 v v' agree)) in
      subst (λ (y : Act). IsAnswered z (Holds entry) entry p.left (stack c (b ∷ []) p.right at) y) (sym (act_at_line sg z.input a p.left at choice (line_moved t line)
      (lines_moved t rest) ea)) r

  -- a jump inside the callee
  inside_jump : (entry p : Point) (a c b : Frame) (at choice target : ℕ) → Inside entry p a c b → (o : Option Block) → find_block t.body.blocks target ≡ o →
      act z.program.signature z.input c p.right at choice ≡ enters_block z.program.signature c p.right at o → IsAnswered z (Holds entry) entry p.left
      (stack c (b ∷ []) p.right at) (jumps z.program.signature a p.left at (target + t.by))
  inside_jump entry p a c b at choice target i None found e =
      answered_fails z (Holds entry) entry p.left (stack c (b ∷ []) p.right at) (stack_breaks z one c (b ∷ []) p.right at choice _ e) (jumps z.program.signature a p.left at
      (target + t.by))
  inside_jump entry p a c b at choice target i (Some x) found e =
      let sg = z.program.signature in
      let names = names_of z.program formed p (kept_fixes (variables z.program) entry p i.fixes i.kept) in
      let known = found_sparing t t.body.blocks can.callee target x found in
      let c1 : Frame = record c { block = x.number; rest = x.lines; end = x.end; locals = phis_bound sg c.locals c.block x.phis c.locals } in
      let la = phis_bound sg a.locals a.block (phis_moved t x.phis) a.locals in
      let a1 : Frame = record a { block = x.number + t.by; rest = lines_moved t x.lines; end = end_moved t x.end; locals = la } in
      let callee0 = phis_callee sg t p.pairing (length p.left) names args_kept a.locals c.locals i.callee c.block x.phis known.1.phis a.locals c.locals i.callee in
      let callee = subst (λ (n : ℕ). CalleeAgrees sg t p.pairing (length p.left) (phis_bound sg a.locals n (phis_moved t x.phis) a.locals)
      (phis_bound sg c.locals c.block x.phis c.locals)) (sym i.block) callee0 in
      let caller = phis_caller sg t p.pairing (length p.left) a.locals a.block x.phis a.locals b.locals i.locals in
      let stepped : step z.program z.input (stack c (b ∷ []) p.right at) choice ≡ record { events = []; next = On (stack c1 (b ∷ []) p.right at) } =
      ap (advance z.program (place_of c) (b ∷ []) p.right at) e in
      let into : Inside entry p a1 c1 b = record {
        kept = i.kept;
        fixes = i.fixes;
        function = i.function;
        function_c = i.function_c;
        function_b = i.function_b;
        block = refl;
        rest = refl;
        end = refl;
        locals = caller;
        callee = callee;
        slots = i.slots;
        lines = known.1.lines;
        returns = known.1.end;
        found = (x, ap (λ (n : ℕ). find_block t.body.blocks n) known.0 ∙ found, refl);
        b_rest = i.b_rest;
        b_end = i.b_end;
        b_block = i.b_block;
        b_awaits = i.b_awaits;
      } in
      let r = one_answer z one (Holds entry) entry p.left (stack c (b ∷ []) p.right at) (stack c1 (b ∷ []) p.right at) choice stepped a1 p.left at refl
      (in_holds entry p a1 c1 b at into) in
      let is : enters_block sg a p.left at (find_block a.function.blocks (target + t.by)) ≡ Goes a1 p.left at [] =
      ap (λ (g : Function). enters_block sg a p.left at (find_block g.blocks (target + t.by))) i.function ∙ ap (λ (q : Option Block). enters_block sg a p.left at q)
      (found_inside t f.blocks can.block can.caller can.found target x found) in
      subst (λ (w : Act). IsAnswered z (Holds entry) entry p.left (stack c (b ∷ []) p.right at) w) (sym is) r

  -- the return of the callee
  joined : (p q : Point) (a c b : Frame) (entry : Point) → Inside entry p a c b → Kept (variables z.program) p q → Names z.program.signature q.pairing (length q.left) →
      (argument : Option Argument) → c.end ≡ Return argument → (local : Option ℕ) → local ≡ t.call.local → LocalsAgree (below t.by) q.pairing (length q.left)
      (phis_bound z.program.signature a.locals a.block (join_phis t local) a.locals) (bind local (answer_of (value_of z.program.signature c.locals) argument) b.locals)
  joined p q a c b entry i k names argument e None w = locals_later p q k (below t.by) a.locals b.locals i.locals
  joined p q a c b entry i k names None e (Some x) w =
      let r = subst (λ (u : Terminator). ReturnsFor t u) e i.returns in
      absurd (cc (r, w))
  joined p q a c b entry i k names (Some arg) e (Some x) w =
      let sg = z.program.signature in
      let ends : i.found.0.end ≡ Return (Some arg) = sym i.found.2 ∙ e in
      let is = ap (λ (n : ℕ). incoming_value sg a.locals n (return_edges t t.body.blocks)) i.block ∙ return_value sg t a.locals t.body.blocks c.block i.found.0 arg
      i.found.1 ends in
      let agree = value_moved sg t q.pairing (length q.left) names a.locals c.locals (callee_later p q k a.locals c.locals i.callee) arg.operand in
      let agree' = subst (λ (v : Value). Agrees q.pairing (length q.left) v (value_of sg c.locals arg.operand)) (sym is) agree in
      λ y kept. if_agrees q.pairing (length q.left) (x == y) (incoming_value sg a.locals a.block (return_edges t t.body.blocks)) (look_up a.locals y)
      (value_of sg c.locals arg.operand) (look_up b.locals y) agree' (locals_later p q k (below t.by) a.locals b.locals i.locals y kept)

  after_call : (argument : Option Value) (b : Frame) → resume b argument ≡ record b { locals = bind b.awaits argument b.locals; awaits = None }
  unfolding resume
  after_call argument b = refl

  inside_return : (entry p : Point) (a c b : Frame) (at choice : ℕ) → Inside entry p a c b → (argument : Option Argument) → c.end ≡ Return argument →
      act z.program.signature z.input c p.right at choice ≡ Gives (answer_of (value_of z.program.signature c.locals) argument) (kill c.slots p.right) →
      IsAnswered z (Holds entry) entry p.left (stack c (b ∷ []) p.right at) (jumps z.program.signature a p.left at t.join)
  inside_return entry p a c b at choice i argument end_c e =
      let sg = z.program.signature in
      let killed = callee_killed (variables z.program) a.slots c.slots b.slots p i.kept.related i.slots in
      let q : Point = record { pairing = p.pairing; left = p.left; right = kill c.slots p.right } in
      let kq = killed.kept in
      let v = answer_of (value_of sg c.locals) argument in
      let names = names_of z.program formed q (kept_fixes (variables z.program) entry q i.fixes (kept_trans entry p q i.kept kq)) in
      let b1 : Frame = record b { locals = bind b.awaits v b.locals; awaits = None } in
      let y = second_part t can.block in
      let a1 : Frame = record a { block = t.join; rest = t.after; end = can.block.end; locals = phis_bound sg a.locals a.block (join_phis t t.call.local) a.locals } in
      let l0 = joined p q a c b entry i kq names argument end_c t.call.local refl in
      let l1 = subst (λ (o : Option ℕ). LocalsAgree (below t.by) q.pairing (length q.left) (phis_bound sg a.locals a.block (join_phis t t.call.local) a.locals)
      (bind o v b.locals)) (sym i.b_awaits) l0 in
      let stepped : step z.program z.input (stack c (b ∷ []) p.right at) choice ≡ record { events = []; next = On (stack b1 [] q.right at) } =
      ap (advance z.program (place_of c) (b ∷ []) p.right at) e ∙ ap (λ (g : Frame). let w : Took = record { events = []; next = On (stack g [] q.right at) } in w)
      (after_call v b) in
      let small : b.block < t.by = omega (arith, i.b_block, call_number, call_block.number) in
      let nb : t.join ≡ renamed t b.block = sym (ap (λ (v' : Bool). if v' then t.join else b.block) (eq-eqb b.block t.block i.b_block)) in
      let out : Outside entry q a1 b1 = record {
        kept = kept_trans entry p q i.kept kq;
        fixes = i.fixes;
        function = i.function;
        function' = i.function_b;
        small = small;
        locals = l1;
        slots = killed.over;
        lines = subst (λ (x : List Line). LinesBelow t.by x) (sym i.b_rest) split.1;
        reads = subst (λ (x : Terminator). EndReads (below t.by) x) (sym i.b_end) call_block.end;
        place = inl (sym i.b_rest, sym i.b_end, nb);
      } in
      let r = one_answer z one (Holds entry) entry p.left (stack c (b ∷ []) p.right at) (stack b1 [] q.right at) choice stepped a1 p.left at refl
      (out_holds entry q a1 b1 at out) in
      let is : enters_block sg a p.left at (find_block a.function.blocks t.join) ≡ Goes a1 p.left at [] =
      ap (λ (g : Function). enters_block sg a p.left at (find_block g.blocks t.join)) i.function ∙ ap (λ (o : Option Block). enters_block sg a p.left at o)
      (found_join t f.blocks can.block can.caller can.callee can.join can.found) in
      subst (λ (w : Act). IsAnswered z (Holds entry) entry p.left (stack c (b ∷ []) p.right at) w) (sym is) r

  -- a terminator of the callee that is no return
  inside_leads : (entry p : Point) (a c b : Frame) (at choice : ℕ) → Inside entry p a c b → (x y : Exit) → MovedExit t x y → ((v : Option Value) → y ≡ Leaves v → ⊥) →
      act z.program.signature z.input c p.right at choice ≡ exits z.program.signature c p.right at y → IsAnswered z (Holds entry) entry p.left (stack c (b ∷ []) p.right at)
      (exits z.program.signature a p.left at x)
  inside_leads entry p a c b at choice i x (Stuck cause) h no' e = answered_fails z (Holds entry) entry p.left (stack c (b ∷ []) p.right at)
      (stack_breaks z one c (b ∷ []) p.right at choice _ e) (exits z.program.signature a p.left at x)
  inside_leads entry p a c b at choice i (Leads' m) (Leads' n) h no' e =
      let sg = z.program.signature in
      let e' : act sg z.input c p.right at choice ≡ enters_block sg c p.right at (find_block t.body.blocks n) =
      e ∙ ap (λ (g : Function). enters_block sg c p.right at (find_block g.blocks n)) i.function_c in
      let r = inside_jump entry p a c b at choice n i (find_block t.body.blocks n) refl e' in
      subst (λ (k : ℕ). IsAnswered z (Holds entry) entry p.left (stack c (b ∷ []) p.right at) (jumps sg a p.left at k)) (sym h) r
  inside_leads entry p a c b at choice i x (Leaves v) h no' e = absurd (no' v refl)
  inside_leads entry p a c b at choice i (Stuck cause) (Leads' n) h no' e = absurd h
  inside_leads entry p a c b at choice i (Leaves v) (Leads' n) h no' e = absurd h

  by_value_leads : (w : ℕ) (target : ℕ → ℕ) (u : Value) (v : Option Value) → by_value w target u ≡ Leaves v → ⊥
  by_value_leads w target u v e = by (bits_of w u) e
    where
      by : (o : Option ℕ) → by_bits target o ≡ Leaves v → ⊥
      by (Some n) h = cc h
      by None h = cc h

  inside_end : (entry p : Point) (a c b : Frame) (at choice : ℕ) → Inside entry p a c b → (end : Terminator) → c.end ≡ end → act z.program.signature z.input c p.right at
      choice ≡ exits z.program.signature c p.right at (exit_of (value_of z.program.signature c.locals) end) → IsAnswered z (Holds entry) entry p.left
      (stack c (b ∷ []) p.right at) (exits z.program.signature a p.left at (exit_of (value_of z.program.signature a.locals) (end_moved t end)))
  inside_end entry p a c b at choice i (Return argument) q e = inside_return entry p a c b at choice i argument q e
  inside_end entry p a c b at choice i (Jump target) q e =
      inside_leads entry p a c b at choice i (Leads' (target + t.by)) (Leads' target) refl (λ v w. cc w) e
  inside_end entry p a c b at choice i (Branch d y x) q e =
      let sg = z.program.signature in
      let names = names_of z.program formed p (kept_fixes (variables z.program) entry p i.fixes i.kept) in
      inside_leads entry p a c b at choice i _ _ (moved_exit t p.pairing (length p.left) (value_of sg a.locals) (value_of sg c.locals)
      (value_moved sg t p.pairing (length p.left) names a.locals c.locals i.callee) (Branch d y x)) (by_value_leads 1 (side y x) (value_of sg c.locals d)) e
  inside_end entry p a c b at choice i (Switch w o d cs) q e =
      let sg = z.program.signature in
      let names = names_of z.program formed p (kept_fixes (variables z.program) entry p i.fixes i.kept) in
      inside_leads entry p a c b at choice i _ _ (moved_exit t p.pairing (length p.left) (value_of sg a.locals) (value_of sg c.locals)
      (value_moved sg t p.pairing (length p.left) names a.locals c.locals i.callee) (Switch w o d cs)) (by_value_leads w (case_target cs d) (value_of sg c.locals o)) e
  inside_end entry p a c b at choice i Unreachable q e =
      inside_leads entry p a c b at choice i (Stuck UnreachableReached) (Stuck UnreachableReached) tt (λ v w. cc w) e

  inside_by : (entry p : Point) (a c b : Frame) (at choice : ℕ) → Inside entry p a c b → (rest : List Line) → c.rest ≡ rest → IsAnswered z (Holds entry) entry p.left
      (stack c (b ∷ []) p.right at) (act z.program.signature z.input a p.left at choice)
  inside_by entry p a c b at choice i (line ∷ rest) e = inside_line entry p a c b at choice i line rest e
  inside_by entry p a c b at choice i [] e =
      let sg = z.program.signature in
      let r = inside_end entry p a c b at choice i c.end refl (act_at_end sg z.input c p.right at choice e) in
      let left : act sg z.input a p.left at choice ≡ exits sg a p.left at (exit_of (value_of sg a.locals) (end_moved t c.end)) =
      act_at_end sg z.input a p.left at choice (i.rest ∙ ap (λ (l : List Line). lines_moved t l) e)
      ∙ ap (λ (u : Terminator). exits sg a p.left at (exit_of (value_of sg a.locals) u)) i.end in
      subst (λ (y : Act). IsAnswered z (Holds entry) entry p.left (stack c (b ∷ []) p.right at) y) (sym left) r

  -- ---- all steps

  step_answered : (entry : Point) (a : Frame) (m : Memory) (s : State) → Holds entry a m s → (choice : ℕ) → IsAnswered z (Holds entry) entry m s
      (act z.program.signature z.input a m s.place choice)
  step_answered entry a m s (inl h) choice =
      let p = h.point in
      let r = outside_by entry p a h.frame h.at choice h.out a.rest refl h.out.place in
      let r' = subst (λ (c : Memory). IsAnswered z (Holds entry) entry c (stack h.frame [] p.right h.at) (act z.program.signature z.input a c h.at choice)) h.left r in
      subst (λ (w : State). IsAnswered z (Holds entry) entry m w (act z.program.signature z.input a m w.place choice)) (sym h.is) r'
  step_answered entry a m s (inr h) choice =
      let p = h.point in
      let r = inside_by entry p a h.frame h.caller h.at choice h.into h.frame.rest refl in
      let r' = subst (λ (c : Memory). IsAnswered z (Holds entry) entry c (stack h.frame (h.caller ∷ []) p.right h.at) (act z.program.signature z.input a c h.at choice)) h.left r in
      subst (λ (w : State). IsAnswered z (Holds entry) entry m w (act z.program.signature z.input a m w.place choice)) (sym h.is) r'

  -- ---- the entry

  params_agree : (w : Pairing) (n : ℕ) (ps : List Param) (vs us : List Value) → AllAgree w n vs us → LocalsAgree (below t.by) w n (params_bound ps vs) (params_bound ps us)
  params_agree w n [] vs us h y kept = tt
  params_agree w n (x ∷ ps) [] [] h y kept = tt
  params_agree w n (x ∷ ps) (v ∷ vs) (u ∷ us) h y kept = if_agrees w n (x.local == y) v (look_up (params_bound ps vs) y) u (look_up (params_bound ps us) y) h.0
      (params_agree w n ps vs us h.1 y kept)
  params_agree w n (x ∷ ps) [] (u ∷ us) h y kept = absurd h
  params_agree w n (x ∷ ps) (v ∷ vs) [] h y kept = absurd h

  enters : (entry : Point) → Related entry → Fixes (variables z.program) entry → (bs : List Block) → BlocksBelow t.by bs → find_block bs t.block ≡ Some can.block →
      (ls rs : Locals) → LocalsAgree (below t.by) entry.pairing (length entry.left) ls rs → Outside entry entry (enter_at (inlined t f) (inlined_blocks t bs) ls)
      (enter_at f bs rs)
  enters entry rel fix [] low found ls rs h = absurd (cc found)
  enters entry rel fix (b ∷ bs) low found ls rs h = by (b.number == t.block) refl
    where
      by : (v : Bool) → (b.number == t.block) ≡ v → Outside entry entry (enter_at (inlined t f) (if v then first_part t b ∷ (blocks_moved t t.body.blocks ++ second_part t
          b ∷ blocks_renamed t bs) else block_renamed t b ∷ inlined_blocks t bs) ls) (enter_at f (b ∷ bs) rs)
      by true e =
          let here : find_block (b ∷ bs) t.block ≡ Some b = ap (λ (v : Bool). if v then Some b else find_block bs t.block) e in
          let same : b ≡ can.block = cc (here, found) in
          record {
            kept = kept_refl entry rel;
            fixes = fix;
            function = refl;
            function' = refl;
            small = low.0.number;
            locals = h;
            slots = refl;
            lines = low.0.lines;
            reads = low.0.end;
            place = inr (block_is_before b same, refl, eqb-true b.number t.block e, ap (λ (w : Block). w.end) same);
          }
      by false e =
          record {
            kept = kept_refl entry rel;
            fixes = fix;
            function = refl;
            function' = refl;
            small = low.0.number;
            locals = h;
            slots = refl;
            lines = low.0.lines;
            reads = low.0.end;
            place = inl (refl, refl, sym (ap (λ (v : Bool). if v then t.join else b.number) e));
          }

  enter_outside : (entry : Point) → Related entry → Fixes (variables z.program) entry → (vs us : List Value) → ArgumentsAgree entry vs us →
      Outside entry entry (enter (inlined t f) vs) (enter f us)
  unfolding enter
  enter_outside entry rel fix vs us h =
      enters entry rel fix f.blocks can.caller can.found (params_bound f.params vs) (params_bound f.params us) (params_agree entry.pairing (length entry.left) f.params vs us h)

pub inlined_is_better : InlinedBetter
inlined_is_better p formed f t can input n entry vs us place rel fix agree =
    let z : Setting = record { program = p; input = input; bound = 1 } in
    near_by z (Holds z (omega arith) formed f t can) (step_answered z (omega arith) formed f t can) n entry (enter (inlined t f) vs) entry.left
    (stack (enter f us) [] entry.right place) (out_holds z (omega arith) formed f t can entry entry (enter (inlined t f) vs) (enter f us) place
    (enter_outside z (omega arith) formed f t can entry rel fix vs us agree))
