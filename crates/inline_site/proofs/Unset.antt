-- A local that no block that can be entered gives a value is poison, so that each use of it may become poison.
use Rattle.std.proofs.Common.{◌≡◌, ℕ, zero, suc, ◌⊎◌, inl, inr, ◌==◌, Bool, true, false, List, [], ◌∷◌, Option, Some, None, map, option_map, refl, sym, ◌∙◌, ap, subst, if◌then◌else◌}
use Rattle.std.proofs.lemmas.Bool.{eqb-true, ne_eqb}
use Rattle.ir_tree.specs.declared.block.Block.{Block}
use Rattle.ir_tree.specs.declared.block.Case.{Case}
use Rattle.ir_tree.specs.declared.block.Terminator.{Terminator}
use Rattle.ir_tree.specs.declared.block.Terminator.TheVariants.{Branch, Jump, Return, Switch, Unreachable}
use Rattle.ir_tree.specs.declared.function.Function.{Function}
use Rattle.ir_tree.specs.declared.function.Param.{Param}
use Rattle.ir_tree.specs.declared.instr.Incoming.{Incoming}
use Rattle.ir_tree.specs.declared.instr.Instr.{Instr}
use Rattle.ir_tree.specs.declared.instr.Instr.TheVariants.{Address, Alloca, Binary, Call, Cast, Freeze, Icmp, Load, Phi as StrayPhi, Select, Store}
use Rattle.ir_tree.specs.declared.instr.Line.{Line}
use Rattle.ir_tree.specs.declared.instr.Phi.{Phi}
use Rattle.ir_tree.specs.declared.operand.Argument.{Argument}
use Rattle.ir_tree.specs.declared.operand.Operand.{Operand}
use Rattle.ir_tree.specs.declared.operand.Operand.TheVariants.{Local, Null, Number as Constant, Poison as PoisonOf, Symbol as Named}
use Rattle.ir_tree.specs.declared.operand.Reg.{Reg}
use Rattle.ir_meaning.specs.Act.{Exit, Leads', Leaves, Stuck, act, apply, by_value, case_target, enter, enter_at, enters_block, exit_of, exits, find_block, incoming_value, params_bound, phis_bound, resume, side, with_slot}
use Rattle.ir_meaning.specs.Execute.{Asked, Broke, Effect, ToAddress, ToBinary, ToCall, ToCast, ToCompare, ToFreeze, ToLoad, ToSelect, ToStore, Went, evaluate, execute}
use Rattle.ir_meaning.specs.Frame.{Frame, Locals, Signature, bind, cons_index, index_of, indices_of, look_up, regs_of, value_of, values_of}
use Rattle.ir_meaning.specs.Memory.{Memory, kill}
use Rattle.ir_meaning.specs.Near.{Against, BetterThan, Fails, GivesToo, IsAnswered, Near, Setting}
use Rattle.ir_meaning.specs.Program.{Program, State}
use Rattle.ir_meaning.specs.Relate.{Point}
use Rattle.ir_meaning.specs.declared.value.Value.{Value}
use Rattle.ir_meaning.specs.declared.value.Value.TheVariants.{Poison}
use Rattle.ir_tree.specs.Edited.{argument_edited, block_edited, case_edited, end_edited, incoming_edited, instr_edited, line_edited, phi_edited}
use Rattle.ir_edit.specs.Substituted.{operand_replaced, or_local, replacement}
use Rattle.ir_meaning.specs.Facts.{IsTarget}
use Rattle.ir_meaning.proofs.Alike.Answering.{act_at_end, act_at_line}
use Rattle.ir_meaning.proofs.Facts.Known.{resume_is, target_in}

-- with poison at each use of the local
abbrev pub lost : ℕ → Reg → Operand → Operand
lost x reg = operand_replaced (replacement ((x, PoisonOf reg) ∷ []))

-- ---- values

lost_value : (sig : Signature) (locals : Locals) (x : ℕ) (reg : Reg) → look_up locals x ≡ Poison → (o : Operand) → value_of sig locals (lost x reg o) ≡ value_of sig locals o
lost_value sig locals x reg unset (Local y) = by (x == y) refl
  where
    by : (b : Bool) → (x == y) ≡ b → value_of sig locals (lost x reg (Local y)) ≡ look_up locals y
    by true e = (λ i. value_of sig locals (or_local (if e i then Some (PoisonOf reg) else None) y)) ∙ sym unset ∙ ap (look_up locals) (eqb-true x y e)
    by false e = (λ i. value_of sig locals (or_local (if e i then Some (PoisonOf reg) else None) y))
lost_value sig locals x reg unset (Constant width bits) = refl
lost_value sig locals x reg unset Null = refl
lost_value sig locals x reg unset (PoisonOf reg') = refl
lost_value sig locals x reg unset (Named symbol offset) = refl

module _ (op : Operand → Operand) (value : Operand → Value) (same : (o : Operand) → value (op o) ≡ value o) where
  values_same : (as' : List Argument) → values_of value (map (argument_edited op) as') ≡ values_of value as'
  values_same [] = refl
  values_same (a ∷ more) = λ i. same a.operand i ∷ values_same more i

  indices_same : (as' : List Argument) → indices_of value (map (argument_edited op) as') ≡ indices_of value as'
  indices_same [] = refl
  indices_same (a ∷ more) = λ i. cons_index (index_of a.reg (same a.operand i)) (indices_same more i)

  regs_same : (as' : List Argument) → regs_of (map (argument_edited op) as') ≡ regs_of as'
  regs_same [] = refl
  regs_same (a ∷ more) = λ i. a.reg ∷ regs_same more i

  evaluate_same : (i : Instr) → evaluate value (instr_edited (λ n. n) op i) ≡ evaluate value i
  evaluate_same (Binary o flags width left right) = λ i. ToBinary o flags width (same left i) (same right i)
  evaluate_same (Icmp predicate reg left right) = λ i. ToCompare predicate reg (same left i) (same right i)
  evaluate_same (Cast o from operand to) = λ i. ToCast o from to (same operand i)
  evaluate_same (Select condition if_true if_false) = λ i. ToSelect (same condition i) (same if_true.operand i) (same if_false.operand i)
  evaluate_same (Freeze reg operand) = λ i. ToFreeze reg (same operand i)
  evaluate_same (Alloca shape align) = refl
  evaluate_same (Load reg address align) = λ i. ToLoad reg (same address i) align
  evaluate_same (Store reg operand address align) = λ i. ToStore reg (same operand i) (same address i) align
  evaluate_same (Address inbounds shape base indices) = λ i. ToAddress inbounds shape (same base i) (indices_same indices i)
  evaluate_same (Call result callee arguments) = λ i. ToCall result (regs_same arguments i) (values_same arguments i) (same callee i)
  evaluate_same (StrayPhi reg incoming) = refl

  exit_same : (e : Terminator) → exit_of value (end_edited (λ n. n) op e) ≡ exit_of value e
  exit_same (Return None) = refl
  exit_same (Return (Some a)) = λ i. Leaves (Some (same a.operand i))
  exit_same (Jump target) = refl
  exit_same (Branch condition if_true if_false) = λ i. by_value 1 (side if_true if_false) (same condition i)
  exit_same (Switch width operand default cases) = (λ i. by_value width (λ n. targets_same cases n i) (same operand i))
    where
      targets_same : (cs : List Case) (n : ℕ) → case_target (map (case_edited (λ k. k)) cs) default n ≡ case_target cs default n
      targets_same [] n = refl
      targets_same (c ∷ cs) n = ap (λ (k : ℕ). if c.bits == n then c.target else k) (targets_same cs n)
  exit_same Unreachable = refl

-- ---- blocks that give the local no value, and don't lead to the block that does

abbrev pub PhisSpare : ℕ → List Phi → Type 0
PhisSpare x [] = Unit {0}
PhisSpare x (p ∷ ps) = (p.local ≡ x → ⊥) × PhisSpare x ps

abbrev pub LinesSpare : ℕ → List Line → Type 0
LinesSpare x [] = Unit {0}
LinesSpare x (l ∷ ls) = (l.local ≡ Some x → ⊥) × LinesSpare x ls

pub record BlockSpares (x behind : ℕ) (b : Block) : Type 0 where
  pub phis : PhisSpare x b.phis
  pub lines : LinesSpare x b.lines
  pub leads : (n : ℕ) → IsTarget b.end n → n ≡ behind → ⊥

-- the first function is the second with poison at each use, where it can be entered
abbrev pub FoundToo : ℕ → ℕ → Reg → Option Block → Option Block → Type 0
FoundToo x behind reg None other = other ≡ None
FoundToo x behind reg (Some b) other = (other ≡ Some (block_edited (λ n. n) (lost x reg) b)) × BlockSpares x behind b

abbrev pub BeginsToo : ℕ → ℕ → Reg → List Block → List Block → Type 0
BeginsToo x behind reg [] bs = bs ≡ []
BeginsToo x behind reg (b ∷ more) bs = (others : List Block) × (bs ≡ block_edited (λ n. n) (lost x reg) b ∷ others) × BlockSpares x behind b

abbrev pub ParamsSpare : ℕ → List Param → Type 0
ParamsSpare x [] = Unit {0}
ParamsSpare x (p ∷ ps) = (p.local ≡ x → ⊥) × ParamsSpare x ps

pub record IsLost (x behind : ℕ) (reg : Reg) (g h : Function) : Type 0 where
  pub params : g.params ≡ h.params
  pub spare : ParamsSpare x h.params
  pub found : (n : ℕ) → (n ≡ behind → ⊥) → FoundToo x behind reg (find_block h.blocks n) (find_block g.blocks n)
  pub begins : BeginsToo x behind reg h.blocks g.blocks

-- ---- locals

bind_spares : (x : ℕ) (local : Option ℕ) (value : Option Value) (locals : Locals) → (local ≡ Some x → ⊥) → look_up (bind local value locals) x ≡ look_up locals x
bind_spares x None value locals ne = refl
bind_spares x (Some y) None locals ne = refl
bind_spares x (Some y) (Some v) locals ne = ap (λ (b : Bool). if b then v else look_up locals x) (ne_eqb y x (λ e. ne (ap (λ (n : ℕ). Some n) e)))

phis_spare : (x : ℕ) (sig : Signature) (locals : Locals) (from : ℕ) (ps : List Phi) (after : Locals) → PhisSpare x ps → look_up (phis_bound sig locals from ps after) x ≡ look_up after x
phis_spare x sig locals from [] after h = refl
phis_spare x sig locals from (p ∷ ps) after h =
    ap (λ (b : Bool). if b then incoming_value sig locals from p.incoming else look_up (phis_bound sig locals from ps after) x) (ne_eqb p.local x h.0) ∙ phis_spare x sig locals from ps after h.1

params_spare : (x : ℕ) (ps : List Param) (vs : List Value) → ParamsSpare x ps → look_up (params_bound ps vs) x ≡ Poison
params_spare x [] vs h = refl
params_spare x (p ∷ ps) [] h = refl
params_spare x (p ∷ ps) (v ∷ vs) h = ap (λ (b : Bool). if b then v else look_up (params_bound ps vs) x) (ne_eqb p.local x h.0) ∙ params_spare x ps vs h.1

module _ (op : Operand → Operand) (sig : Signature) (locals : Locals) (same : (o : Operand) → value_of sig locals (op o) ≡ value_of sig locals o) where
  entries_same : (from : ℕ) (es : List Incoming) → incoming_value sig locals from (map (incoming_edited (λ n. n) op) es) ≡ incoming_value sig locals from es
  entries_same from [] = refl
  entries_same from (e ∷ es) = λ i. if e.from == from then same e.value i else entries_same from es i

  phis_same : (from : ℕ) (ps : List Phi) (after : Locals) → phis_bound sig locals from (map (phi_edited (λ n. n) op) ps) after ≡ phis_bound sig locals from ps after
  phis_same from [] after = refl
  phis_same from (p ∷ ps) after = λ i. (p.local, entries_same from p.incoming i) ∷ phis_same from ps after i

-- ---- frames

module _ (x behind : ℕ) (reg : Reg) (g h : Function) (is : IsLost x behind reg g h) where
  abbrev op : Operand → Operand
  op = lost x reg

  -- the first frame is the second with poison at each use
  record Follows (a b : Frame) : Type 0 where
    function : a.function ≡ g
    function' : b.function ≡ h
    block : a.block ≡ b.block
    rest : a.rest ≡ map (line_edited (λ n. n) op) b.rest
    end : a.end ≡ end_edited (λ n. n) op b.end
    locals : a.locals ≡ b.locals
    slots : a.slots ≡ b.slots
    awaits : a.awaits ≡ b.awaits
    unset : look_up b.locals x ≡ Poison
    lines : LinesSpare x b.rest
    leads : (n : ℕ) → IsTarget b.end n → n ≡ behind → ⊥
    waits : b.awaits ≡ Some x → ⊥

  abbrev Maps : Against → Against → Type 0
  Maps near near' = (a b : Frame) (m : Memory) (right : State) → Follows a b → near b m right → near' a m right

  same_local : (o : Option ℕ) → option_map (λ n. n) o ≡ o
  same_local None = refl
  same_local (Some n) = refl

  -- a frame that waited goes on
  resumes : (a b : Frame) (v : Option Value) → Follows a b → Follows (resume a v) (resume b v)
  resumes a b v f =
      let made : Follows (record a { locals = bind a.awaits v a.locals; awaits = None }) (record b { locals = bind b.awaits v b.locals; awaits = None }) = record {
        function = f.function;
        function' = f.function';
        block = f.block;
        rest = f.rest;
        end = f.end;
        locals = λ i. bind (f.awaits i) v (f.locals i);
        slots = f.slots;
        awaits = refl;
        unset = bind_spares x b.awaits v b.locals f.waits ∙ f.unset;
        lines = f.lines;
        leads = f.leads;
        waits = λ e. cc e;
      } in
      subst (λ (k : Frame). Follows k (resume b v)) (sym (resume_is a v)) (subst (λ (k : Frame). Follows (record a { locals = bind a.awaits v a.locals; awaits = None }) k) (sym (resume_is b v)) made)

  -- an instruction
  applied : (z : Setting) (near near' : Against) → Maps near near' → (entry : Point) (m : Memory) (right : State) (a b : Frame) → Follows a b → (line : Line) (rest : List Line)
      → b.rest ≡ line ∷ rest → (e : Effect) → IsAnswered z near entry m right (apply (record b { rest = rest }) line.local e)
      → IsAnswered z near' entry m right (apply (record a { rest = map (line_edited (λ n. n) op) rest }) line.local e)
  applied z near near' maps entry m right a b f line rest is_line (Broke why) answered = answered
  applied z near near' maps entry m right a b f line rest is_line (Asked callee arguments) (inl fails) = inl fails
  applied z near near' maps entry m right a b f line rest is_line (Asked callee arguments) (inr c) =
      let spare = subst (LinesSpare x) is_line f.lines in
      let next : Follows (record a { rest = map (line_edited (λ n. n) op) rest; awaits = line.local }) (record b { rest = rest; awaits = line.local }) = record {
        function = f.function;
        function' = f.function';
        block = f.block;
        rest = refl;
        end = f.end;
        locals = f.locals;
        slots = f.slots;
        awaits = refl;
        unset = f.unset;
        lines = spare.1;
        leads = f.leads;
        waits = spare.0;
      } in
      inr (record {
        steps = c.steps;
        few = c.few;
        state = c.state;
        leads = c.leads;
        place = c.place;
        choice = c.choice;
        arguments' = c.arguments';
        waiting' = c.waiting';
        calls = c.calls;
        point = c.point;
        left = c.left;
        right_is = c.right_is;
        related = c.related;
        fixes = c.fixes;
        agree = c.agree;
        goes_on = λ q v v' place kept agree. maps _ _ _ _ (resumes _ _ v next) (c.goes_on q v v' place kept agree);
      })
  applied z near near' maps entry m right a b f line rest is_line (Went v slot m' place events) (inl fails) = inl fails
  applied z near near' maps entry m right a b f line rest is_line (Went v slot m' place events) (inr c) =
      let spare = subst (LinesSpare x) is_line f.lines in
      let next : Follows (record a { rest = map (line_edited (λ n. n) op) rest; locals = bind line.local v a.locals; slots = with_slot slot a.slots })
      (record b { rest = rest; locals = bind line.local v b.locals; slots = with_slot slot b.slots }) = record {
        function = f.function;
        function' = f.function';
        block = f.block;
        rest = refl;
        end = f.end;
        locals = ap (bind line.local v) f.locals;
        slots = ap (with_slot slot) f.slots;
        awaits = f.awaits;
        unset = bind_spares x line.local v b.locals spare.0 ∙ f.unset;
        lines = spare.1;
        leads = f.leads;
        waits = f.waits;
      } in
      inr (record { state = c.state; answers = c.answers; place_is = c.place_is; near_still = maps _ _ _ _ next c.near_still })

  -- a block that is entered
  entered : (z : Setting) (near near' : Against) → Maps near near' → (entry : Point) (m : Memory) (right : State) (a b : Frame) → Follows a b → (place : ℕ) (o other : Option Block)
      → FoundToo x behind reg o other → IsAnswered z near entry m right (enters_block z.program.signature b m place o) → IsAnswered z near' entry m right (enters_block z.program.signature a m place other)
  entered z near near' maps entry m right a b f place None other found answered = subst (λ (w : Option Block). IsAnswered z near' entry m right (enters_block z.program.signature a m place w)) (sym found) answered
  entered z near near' maps entry m right a b f place (Some y) other found (inl fails) =
      subst (λ (w : Option Block). IsAnswered z near' entry m right (enters_block z.program.signature a m place w)) (sym found.0) (inl fails)
  entered z near near' maps entry m right a b f place (Some y) other found (inr c) =
      let sig = z.program.signature in
      let next : Follows (record a {
        block = y.number;
        rest = map (line_edited (λ n. n) op) y.lines;
        end = end_edited (λ n. n) op y.end;
        locals = phis_bound sig a.locals a.block (map (phi_edited (λ n. n) op) y.phis) a.locals;
      }) (record b { block = y.number; rest = y.lines; end = y.end; locals = phis_bound sig b.locals b.block y.phis b.locals }) = record {
        function = f.function;
        function' = f.function';
        block = refl;
        rest = refl;
        end = refl;
        locals = (λ i. phis_bound sig (f.locals i) (f.block i) (map (phi_edited (λ n. n) op) y.phis) (f.locals i)) ∙ phis_same op sig b.locals (lost_value sig b.locals x reg f.unset) b.block y.phis b.locals;
        slots = f.slots;
        awaits = f.awaits;
        unset = phis_spare x sig b.locals b.block y.phis b.locals found.1.phis ∙ f.unset;
        lines = found.1.lines;
        leads = found.1.leads;
        waits = f.waits;
      } in
      subst (λ (w : Option Block). IsAnswered z near' entry m right (enters_block sig a m place w)) (sym found.0)
      (inr (record { state = c.state; answers = c.answers; place_is = c.place_is; near_still = maps _ _ _ _ next c.near_still }))

  -- the end of a block
  left : (z : Setting) (near near' : Against) → Maps near near' → (entry : Point) (m : Memory) (right : State) (a b : Frame) → Follows a b → (place : ℕ) (e : Exit)
      → ((n : ℕ) → e ≡ Leads' n → n ≡ behind → ⊥) → IsAnswered z near entry m right (exits z.program.signature b m place e) → IsAnswered z near' entry m right (exits z.program.signature a m place e)
  left z near near' maps entry m right a b f place (Leaves answer) leads answered =
      subst (λ (ss : List ℕ). Fails z right [] ⊎ GivesToo z entry answer (kill ss m) right) (sym f.slots) answered
  left z near near' maps entry m right a b f place (Stuck cause) leads answered = answered
  left z near near' maps entry m right a b f place (Leads' n) leads answered =
      subst (λ (k : Function). IsAnswered z near' entry m right (enters_block z.program.signature a m place (find_block k.blocks n))) (sym f.function)
      (entered z near near' maps entry m right a b f place (find_block h.blocks n) (find_block g.blocks n) (is.found n (leads n refl))
      (subst (λ (k : Function). IsAnswered z near entry m right (enters_block z.program.signature b m place (find_block k.blocks n))) f.function' answered))

  -- one step
  stepped : (z : Setting) (near near' : Against) → Maps near near' → (entry : Point) (m : Memory) (right : State) (a b : Frame) → Follows a b → (choice : ℕ) (rest : List Line) → b.rest ≡ rest
      → IsAnswered z near entry m right (act z.program.signature z.input b m right.place choice) → IsAnswered z near' entry m right (act z.program.signature z.input a m right.place choice)
  stepped z near near' maps entry m right a b f choice [] e answered =
      let sig = z.program.signature in
      let value_same = lost_value sig b.locals x reg f.unset in
      let there : a.rest ≡ [] = f.rest ∙ ap (map (line_edited (λ n. n) op)) e in
      let exit : exit_of (value_of sig a.locals) a.end ≡ exit_of (value_of sig b.locals) b.end =
      (λ i. exit_of (value_of sig (f.locals i)) (f.end i)) ∙ exit_same op (value_of sig b.locals) value_same b.end in
      subst (IsAnswered z near' entry m right) (sym (act_at_end sig z.input a m right.place choice there ∙ ap (exits sig a m right.place) exit))
      (left z near near' maps entry m right a b f right.place (exit_of (value_of sig b.locals) b.end) (λ n leads. f.leads n (target_in (value_of sig b.locals) b.end n leads))
      (subst (IsAnswered z near entry m right) (act_at_end sig z.input b m right.place choice e) answered))
  stepped z near near' maps entry m right a b f choice (line ∷ rest) e answered =
      let sig = z.program.signature in
      let value_same = lost_value sig b.locals x reg f.unset in
      let there : a.rest ≡ line_edited (λ n. n) op line ∷ map (line_edited (λ n. n) op) rest = f.rest ∙ ap (map (line_edited (λ n. n) op)) e in
      let task : evaluate (value_of sig a.locals) (instr_edited (λ n. n) op line.instr) ≡ evaluate (value_of sig b.locals) line.instr =
      ap (λ (ls : Locals). evaluate (value_of sig ls) (instr_edited (λ n. n) op line.instr)) f.locals ∙ evaluate_same op (value_of sig b.locals) value_same line.instr in
      let did : act sig z.input a m right.place choice ≡ apply (record a { rest = map (line_edited (λ n. n) op) rest }) line.local (execute sig z.input m right.place choice (evaluate (value_of sig b.locals) line.instr)) =
      act_at_line sig z.input a m right.place choice (line_edited (λ n. n) op line) (map (line_edited (λ n. n) op) rest) there
      ∙ (λ i. apply (record a { rest = map (line_edited (λ n. n) op) rest }) (same_local line.local i) (execute sig z.input m right.place choice (task i))) in
      subst (IsAnswered z near' entry m right) (sym did)
      (applied z near near' maps entry m right a b f line rest e (execute sig z.input m right.place choice (evaluate (value_of sig b.locals) line.instr))
      (subst (IsAnswered z near entry m right) (act_at_line sig z.input b m right.place choice line rest e) answered))

  near_too : (z : Setting) (n : ℕ) (entry : Point) → Maps (Near z n entry) (Near z n entry)
  near_too z zero entry a b m right f near = tt
  near_too z (suc n) entry a b m right f near = λ choice. stepped z (Near z n entry) (Near z n entry) (near_too z n entry) entry m right a b f choice b.rest refl (near choice)

  begins_at : (bs others : List Block) (vs : List Value) → BeginsToo x behind reg bs others → Follows (enter_at g others (params_bound g.params vs)) (enter_at h bs (params_bound h.params vs))
  begins_at [] others vs begins =
      subst (λ (l : List Block). Follows (enter_at g l (params_bound g.params vs)) (enter_at h [] (params_bound h.params vs))) (sym begins) (record {
        function = refl;
        function' = refl;
        block = refl;
        rest = refl;
        end = refl;
        locals = ap (λ (ps : List Param). params_bound ps vs) is.params;
        slots = refl;
        awaits = refl;
        unset = params_spare x h.params vs is.spare;
        lines = tt;
        leads = λ n t e. t;
        waits = λ e. cc e;
      })
  begins_at (b ∷ bs) others vs begins =
      subst (λ (l : List Block). Follows (enter_at g l (params_bound g.params vs)) (enter_at h (b ∷ bs) (params_bound h.params vs))) (sym begins.1) (record {
        function = refl;
        function' = refl;
        block = refl;
        rest = refl;
        end = refl;
        locals = ap (λ (ps : List Param). params_bound ps vs) is.params;
        slots = refl;
        awaits = refl;
        unset = params_spare x h.params vs is.spare;
        lines = begins.2.lines;
        leads = begins.2.leads;
        waits = λ e. cc e;
      })

  begins_too : (vs : List Value) → Follows (enter g vs) (enter h vs)
  unfolding enter
  begins_too vs = begins_at h.blocks g.blocks vs is.begins

  -- what the second is better than, the first is better than
  pub lost_better : (p : Program) (bound : ℕ) (f : Function) → BetterThan p bound h f → BetterThan p bound g f
  lost_better p bound f better input n entry vs us place related fixes agree =
      near_too (record { program = p; input = input; bound = bound }) n entry (enter g vs) (enter h vs) entry.left (record { top = enter f us; below = []; memory = entry.right; place = place }) (begins_too vs)
      (better input n entry vs us place related fixes agree)
