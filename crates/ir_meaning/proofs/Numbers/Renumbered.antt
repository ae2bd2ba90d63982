-- A function under other numbers of locals and blocks is better: both sides take the same steps.
use Rattle.std.proofs.Common.{◌≡◌, ℕ, zero, suc, ◌≤◌, Bool, true, false, ◌==◌, if◌then◌else◌, List, [], ◌∷◌, length, map, Option, Some, None, ◌⊎◌, inl, inr, refl, sym, ap, ◌∙◌, subst, arith}
use Rattle.std.specs.Prelude.{option_map}
use Rattle.std.proofs.lemmas.Bool.{cases_eq, ne_eqb, eq-eqb}
use Rattle.ir_tree.specs.declared.block.Block.{Block}
use Rattle.ir_tree.specs.declared.block.Case.{Case}
use Rattle.ir_tree.specs.declared.block.Terminator.{Terminator}
use Rattle.ir_tree.specs.declared.block.Terminator.TheVariants.{Return, Jump, Branch, Switch, Unreachable}
use Rattle.ir_tree.specs.declared.function.Function.{Function}
use Rattle.ir_tree.specs.declared.function.Param.{Param}
use Rattle.ir_tree.specs.declared.instr.Incoming.{Incoming}
use Rattle.ir_tree.specs.declared.instr.Instr.{Instr}
use Rattle.ir_tree.specs.declared.instr.Instr.TheVariants.{Binary, Icmp, Cast, Select, Freeze, Alloca, Load, Store, Address, Call, Phi as StrayPhi}
use Rattle.ir_tree.specs.declared.instr.Line.{Line}
use Rattle.ir_tree.specs.declared.instr.Phi.{Phi}
use Rattle.ir_tree.specs.declared.operand.Operand.{Operand}
use Rattle.ir_tree.specs.declared.operand.Operand.TheVariants.{Local, Number as Constant, Null, Poison as PoisonOf, Symbol as Named}
use Rattle.ir_meaning.specs.Act.{Act, apply, incoming_value, phis_bound, find_block, enters_block, case_target, side, by_bits, by_value, Exit, Leaves, Leads', Stuck, exit_of, exits, act, params_bound, enter_at, enter, resume}
use Rattle.ir_meaning.specs.Execute.{evaluate, execute}
use Rattle.ir_meaning.specs.Operate.{bits_of}
use Rattle.ir_meaning.specs.Frame.{Locals, Frame, Signature, look_up, bind, value_of}
use Rattle.ir_meaning.specs.Memory.{Memory, kill}
use Rattle.ir_meaning.specs.Near.{Setting, IsAnswered}
use Rattle.ir_meaning.specs.Program.{variables, State}
use Rattle.ir_meaning.specs.Relate.{Pairing, Point, Fixes, Kept, Agrees, AllAgree, ValuesAgree, ArgumentsAgree}
use Rattle.ir_meaning.specs.declared.value.Value.{Value}
use Rattle.ir_meaning.specs.Formed.{IsFormed}
use Rattle.ir_meaning.specs.Renumber.{operand_renumbered, incoming_renumbered, instr_renumbered, line_renumbered, phi_renumbered, case_renumbered, end_renumbered, block_renumbered, param_renumbered, renumbered, IsOneToOne, RenumberedBetter}
use Rattle.ir_meaning.proofs.Alike.Answering.{near_by, alone, answered_effects, answered_return, answered_go, answered_fails, breaks_at_once, names_of, act_at_line, act_at_end}
use Rattle.ir_meaning.proofs.Alike.Effects.{value_later, answer_later, slots_later, evaluate_agrees, execute_alike}
use Rattle.ir_meaning.proofs.Alike.Itself.{slots_more}
use Rattle.ir_meaning.proofs.Alike.Keeping.{kept_refl, kept_trans, kept_fixes, SlotsPaired, kill_kept}
use Rattle.ir_meaning.proofs.Alike.Values.{Names, NoneOrSame, bits_agree, if_agrees, value_of_agrees}
use Rattle.ir_meaning.proofs.Inlining.Values.{evaluate_with, operands_all}

-- ---- numbers

test_same : (new : ℕ → ℕ) → IsOneToOne new → (x y : ℕ) → (new x == new y) ≡ (x == y)
test_same new once x y = cases (cases_eq x y)
  where
    cases : (x ≡ y) ⊎ (x ≡ y → ⊥) → (new x == new y) ≡ (x == y)
    cases (inl e) = eq-eqb (new x) (new y) (ap new e) ∙ sym (eq-eqb x y e)
    cases (inr ne) = ne_eqb (new x) (new y) (λ s. ne (once x y s)) ∙ sym (ne_eqb x y ne)

found : (new : ℕ → ℕ) → IsOneToOne new → (bs : List Block) (n : ℕ) → find_block (map (block_renumbered new) bs) (new n) ≡ option_map (block_renumbered new) (find_block bs n)
found new once [] n = refl
found new once (b ∷ bs) n = ap (λ (v : Bool). if v then Some (block_renumbered new b) else find_block (map (block_renumbered new) bs) (new n)) (test_same new once b.number n) ∙ by (b.number == n) (found new once bs n)
  where
    by : (v : Bool) → find_block (map (block_renumbered new) bs) (new n) ≡ option_map (block_renumbered new) (find_block bs n) → (if v then Some (block_renumbered new b) else find_block (map (block_renumbered new) bs) (new n)) ≡ option_map (block_renumbered new) (if v then Some b else find_block bs n)
    by true go = refl
    by false go = go

-- ---- locals

-- each local of the right has an agreed value under its new number on the left
abbrev LocalsUnder : (ℕ → ℕ) → Pairing → ℕ → Locals → Locals → Type 0
LocalsUnder new w n ls rs = (x : ℕ) → Agrees w n (look_up ls (new x)) (look_up rs x)

value_renumbered : (sig : Signature) (new : ℕ → ℕ) (w : Pairing) (n : ℕ) → Names sig w n → (ls rs : Locals) → LocalsUnder new w n ls rs → (o : Operand) → Agrees w n (value_of sig ls (operand_renumbered new o)) (value_of sig rs o)
value_renumbered sig new w n c ls rs h (Local x) = h x
value_renumbered sig new w n c ls rs h (Constant k bits) = refl
value_renumbered sig new w n c ls rs h Null = (tt, refl)
value_renumbered sig new w n c ls rs h (PoisonOf reg) = tt
value_renumbered sig new w n c ls rs h (Named s o) = value_of_agrees sig w n c (λ x. true) [] [] (λ x k. tt) (Named s o) tt

-- one more local on both sides
one_more : (new : ℕ → ℕ) → IsOneToOne new → (w : Pairing) (n x : ℕ) (v u : Value) (ls rs : Locals) → Agrees w n v u → LocalsUnder new w n ls rs → LocalsUnder new w n ((new x, v) ∷ ls) ((x, u) ∷ rs)
one_more new once w n x v u ls rs a h y =
    subst (λ (t : Bool). Agrees w n (if t then v else look_up ls (new y)) (if x == y then u else look_up rs y)) (sym (test_same new once x y)) (if_agrees w n (x == y) v (look_up ls (new y)) u (look_up rs y) a (h y))

binds : (new : ℕ → ℕ) → IsOneToOne new → (p : Point) (local : Option ℕ) (v u : Option Value) (ls rs : Locals) → ValuesAgree p v u → LocalsUnder new p.pairing (length p.left) ls rs → LocalsUnder new p.pairing (length p.left) (bind (option_map new local) v ls) (bind local u rs)
binds new once p None v u ls rs a h = h
binds new once p (Some x) None None ls rs a h = h
binds new once p (Some x) (Some v) (Some u) ls rs a h = one_more new once p.pairing (length p.left) x v u ls rs a h
binds new once p (Some x) None (Some u) ls rs a h = absurd a
binds new once p (Some x) (Some v) None ls rs a h = absurd a

locals_stay : (new : ℕ → ℕ) {g : ℕ} (p q : Point) → Kept g p q → (ls rs : Locals) → LocalsUnder new p.pairing (length p.left) ls rs → LocalsUnder new q.pairing (length q.left) ls rs
locals_stay new p q k ls rs h x = value_later p q k (look_up ls (new x)) (look_up rs x) (h x)

-- ---- phis

edges_agree : (sig : Signature) (new : ℕ → ℕ) → IsOneToOne new → (w : Pairing) (n : ℕ) → Names sig w n → (ls rs : Locals) → LocalsUnder new w n ls rs → (from : ℕ) (es : List Incoming) → Agrees w n (incoming_value sig ls (new from) (map (incoming_renumbered new) es)) (incoming_value sig rs from es)
edges_agree sig new once w n c ls rs h from [] = tt
edges_agree sig new once w n c ls rs h from (e ∷ es) =
    let v = value_of sig ls (operand_renumbered new e.value) in
    let more = incoming_value sig ls (new from) (map (incoming_renumbered new) es) in
    let both = if_agrees w n (e.from == from) v more (value_of sig rs e.value) (incoming_value sig rs from es) (value_renumbered sig new w n c ls rs h e.value) (edges_agree sig new once w n c ls rs h from es) in
    subst (λ (b : Bool). Agrees w n (if b then v else more) (incoming_value sig rs from (e ∷ es))) (sym (test_same new once e.from from)) both

phis_agree : (sig : Signature) (new : ℕ → ℕ) → IsOneToOne new → (w : Pairing) (n : ℕ) → Names sig w n → (ls rs : Locals) → LocalsUnder new w n ls rs → (from : ℕ) (ps : List Phi) (ls' rs' : Locals) → LocalsUnder new w n ls' rs' → LocalsUnder new w n (phis_bound sig ls (new from) (map (phi_renumbered new) ps) ls') (phis_bound sig rs from ps rs')
phis_agree sig new once w n c ls rs h from [] ls' rs' h' = h'
phis_agree sig new once w n c ls rs h from (x ∷ ps) ls' rs' h' =
    one_more new once w n x.local _ _ _ _ (edges_agree sig new once w n c ls rs h from x.incoming) (phis_agree sig new once w n c ls rs h from ps ls' rs' h')

-- ---- terminators

-- the second is stuck, or both lead to the same under the new numbers
abbrev ExitsUnder : (ℕ → ℕ) → Point → Exit → Exit → Type 0
ExitsUnder new p x (Stuck cause) = Unit {0}
ExitsUnder new p (Leaves v) (Leaves u) = ValuesAgree p v u
ExitsUnder new p (Leads' a) (Leads' b) = a ≡ new b
ExitsUnder new p _ _ = ⊥

by_values : (new : ℕ → ℕ) (p : Point) (w : ℕ) (to from : ℕ → ℕ) → ((k : ℕ) → to k ≡ new (from k)) → (v u : Value) → Agrees p.pairing (length p.left) v u → ExitsUnder new p (by_value w to v) (by_value w from u)
by_values new p w to from same v u e = by (bits_of w v) (bits_of w u) (bits_agree p.pairing (length p.left) w v u e)
  where
    by : (a b : Option ℕ) → NoneOrSame a b → ExitsUnder new p (by_bits to a) (by_bits from b)
    by a None h = tt
    by (Some k) (Some m) (inr h) = let same_bits : k ≡ m = cc h in ap to same_bits ∙ same m
    by None (Some m) (inr h) = absurd (cc h)
    by a (Some m) (inl h) = absurd (cc h)

sides : (new : ℕ → ℕ) (t f k : ℕ) → side (new t) (new f) k ≡ new (side t f k)
sides new t f zero = refl
sides new t f (suc k) = refl

cases_same : (new : ℕ → ℕ) (cs : List Case) (default k : ℕ) → case_target (map (case_renumbered new) cs) (new default) k ≡ new (case_target cs default k)
cases_same new [] default k = refl
cases_same new (c ∷ cs) default k = by (c.bits == k) (cases_same new cs default k)
  where
    by : (v : Bool) → case_target (map (case_renumbered new) cs) (new default) k ≡ new (case_target cs default k) → (if v then new c.target else case_target (map (case_renumbered new) cs) (new default) k) ≡ new (if v then c.target else case_target cs default k)
    by true go = refl
    by false go = go

exit_agrees : (sig : Signature) (new : ℕ → ℕ) (p : Point) → Names sig p.pairing (length p.left) → (ls rs : Locals) → LocalsUnder new p.pairing (length p.left) ls rs → (t : Terminator) → ExitsUnder new p (exit_of (value_of sig ls) (end_renumbered new t)) (exit_of (value_of sig rs) t)
exit_agrees sig new p c ls rs h (Return None) = tt
exit_agrees sig new p c ls rs h (Return (Some a)) = value_renumbered sig new p.pairing (length p.left) c ls rs h a.operand
exit_agrees sig new p c ls rs h (Jump target) = refl
exit_agrees sig new p c ls rs h (Branch d t f) = by_values new p 1 _ _ (sides new t f) _ _ (value_renumbered sig new p.pairing (length p.left) c ls rs h d)
exit_agrees sig new p c ls rs h (Switch w operand default cases) = by_values new p w _ _ (cases_same new cases default) _ _ (value_renumbered sig new p.pairing (length p.left) c ls rs h operand)
exit_agrees sig new p c ls rs h Unreachable = tt

-- ---- frames

-- the left frame is the right one under the new numbers; where there is no block yet, the frame is stuck
record FramesUnder (new : ℕ → ℕ) (g : ℕ) (p : Point) (a b : Frame) : Type 0 where
  function : a.function ≡ renumbered new b.function
  block : (b.end ≡ Unreachable) ⊎ (a.block ≡ new b.block)
  rest : a.rest ≡ map (line_renumbered new) b.rest
  end : a.end ≡ end_renumbered new b.end
  awaits : a.awaits ≡ option_map new b.awaits
  locals : LocalsUnder new p.pairing (length p.left) a.locals b.locals
  slots : SlotsPaired g p.pairing (length p.left) a.slots b.slots

record Holds (new : ℕ → ℕ) (z : Setting) (entry : Point) (a : Frame) (m : Memory) (s : State) : Type 0 where
  point : Point
  left : point.left ≡ m
  frame : Frame
  place : ℕ
  is : s ≡ alone frame point.right place
  kept : Kept (variables z.program) entry point
  fixes : Fixes (variables z.program) entry
  frames : FramesUnder new (variables z.program) point a frame

holds : (new : ℕ → ℕ) (z : Setting) (entry p : Point) (a b : Frame) (place : ℕ) → Kept (variables z.program) entry p → Fixes (variables z.program) entry → FramesUnder new (variables z.program) p a b → Holds new z entry a p.left (alone b p.right place)
holds new z entry p a b place k fix f = record { point = p; left = refl; frame = b; place = place; is = refl; kept = k; fixes = fix; frames = f }

resume_alike : (new : ℕ → ℕ) → IsOneToOne new → {g : ℕ} (p : Point) (a b : Frame) → FramesUnder new g p a b → (v u : Option Value) → ValuesAgree p v u → FramesUnder new g p (resume a v) (resume b u)
unfolding resume
resume_alike new once p a b f v u agree = record {
  function = f.function;
  block = f.block;
  rest = f.rest;
  end = f.end;
  awaits = refl;
  locals = subst (λ (o : Option ℕ). LocalsUnder new p.pairing (length p.left) (bind o v a.locals) (bind b.awaits u b.locals)) (sym f.awaits) (binds new once p b.awaits v u a.locals b.locals agree f.locals);
  slots = f.slots;
}

evaluated : (new : ℕ → ℕ) (value : Operand → Value) (i : Instr) → evaluate value (instr_renumbered new i) ≡ evaluate (λ o. value (operand_renumbered new o)) i
evaluated new value (Binary op flags w l r) = evaluate_with (operand_renumbered new) value (Binary op flags w l r)
evaluated new value (Icmp p reg l r) = evaluate_with (operand_renumbered new) value (Icmp p reg l r)
evaluated new value (Cast op from o to) = evaluate_with (operand_renumbered new) value (Cast op from o to)
evaluated new value (Select c t e) = evaluate_with (operand_renumbered new) value (Select c t e)
evaluated new value (Freeze w o) = evaluate_with (operand_renumbered new) value (Freeze w o)
evaluated new value (Alloca shape align) = evaluate_with (operand_renumbered new) value (Alloca shape align)
evaluated new value (Load reg o align) = evaluate_with (operand_renumbered new) value (Load reg o align)
evaluated new value (Store reg o d align) = evaluate_with (operand_renumbered new) value (Store reg o d align)
evaluated new value (Address inbounds shape o is) = evaluate_with (operand_renumbered new) value (Address inbounds shape o is)
evaluated new value (Call result c args) = evaluate_with (operand_renumbered new) value (Call result c args)
evaluated new value (StrayPhi reg es) = refl

-- one instruction on both sides
at_line : (new : ℕ → ℕ) → IsOneToOne new → (z : Setting) → 1 ≤ z.bound → IsFormed z.program → (entry p : Point) (a b : Frame) (place choice : ℕ) → Kept (variables z.program) entry p → Fixes (variables z.program) entry → FramesUnder new (variables z.program) p a b → (line : Line) (rest : List Line) → b.rest ≡ line ∷ rest → IsAnswered z (Holds new z entry) entry p.left (alone b p.right place) (act z.program.signature z.input a p.left place choice)
at_line new once z one formed entry p a b place choice k fix f line rest e =
    let sig = z.program.signature in
    let fix' = kept_fixes (variables z.program) entry p fix k in
    let names = names_of z.program formed p fix' in
    let left = line_renumbered new line in
    let left_value = value_of sig a.locals in
    let right_value = value_of sig b.locals in
    let agree = operands_all p.pairing (length p.left) (λ o. left_value (operand_renumbered new o)) right_value (value_renumbered sig new p.pairing (length p.left) names a.locals b.locals f.locals) line.instr in
    let tasks = evaluate_agrees p.pairing (length p.left) (λ o. left_value (operand_renumbered new o)) right_value line.instr agree in
    let x = execute_alike sig p k.related z.input place choice (evaluate (λ o. left_value (operand_renumbered new o)) line.instr) (evaluate right_value line.instr) tasks in
    let a' : Frame = record a { rest = map (line_renumbered new) rest } in
    let b' : Frame = record b { rest = rest } in
    let r = answered_effects z one (Holds new z entry) entry p k fix' a' b b' left.local line.local place x.0 (execute sig z.input p.left place choice (evaluate (λ o. left_value (operand_renumbered new o)) line.instr)) (execute sig z.input p.right place x.0 (evaluate right_value line.instr)) (act_at_line sig z.input b p.right place x.0 line rest e) x.1
    (λ q v v' slot slot' place' k' agree slots. holds new z entry q _ _ place' (kept_trans entry p q k k') fix (record { function = f.function; block = f.block; rest = refl; end = f.end; awaits = f.awaits; locals = binds new once q line.local v v' a.locals b.locals agree (locals_stay new p q k' a.locals b.locals f.locals); slots = slots_more (variables z.program) p q fix' slot slot' a.slots b.slots slots (slots_later p q k' a.slots b.slots f.slots) }))
    (λ q v v' place' k' agree. holds new z entry q _ _ place' (kept_trans entry p q k k') fix (resume_alike new once q (record a' { awaits = left.local }) (record b' { awaits = line.local }) (record { function = f.function; block = f.block; rest = refl; end = f.end; awaits = refl; locals = locals_stay new p q k' a.locals b.locals f.locals; slots = slots_later p q k' a.slots b.slots f.slots }) v v' agree)) in
    let at_left = act_at_line sig z.input a p.left place choice left (map (line_renumbered new) rest) (f.rest ∙ ap (map (line_renumbered new)) e) in
    let same = ap (λ t. apply a' left.local (execute sig z.input p.left place choice t)) (evaluated new left_value line.instr) in
    subst (λ (y : Act). IsAnswered z (Holds new z entry) entry p.left (alone b p.right place) y) (sym (at_left ∙ same)) r

-- a jump on both sides
jump : (new : ℕ → ℕ) → IsOneToOne new → (z : Setting) → 1 ≤ z.bound → IsFormed z.program → (entry p : Point) (a b : Frame) (place choice : ℕ) → Kept (variables z.program) entry p → Fixes (variables z.program) entry → FramesUnder new (variables z.program) p a b → a.block ≡ new b.block → (o : Option Block) → act z.program.signature z.input b p.right place choice ≡ enters_block z.program.signature b p.right place o → IsAnswered z (Holds new z entry) entry p.left (alone b p.right place) (enters_block z.program.signature a p.left place (option_map (block_renumbered new) o))
jump new once z one formed entry p a b place choice k fix f same None e = breaks_at_once z one b p.right place choice _ e
jump new once z one formed entry p a b place choice k fix f same (Some x) e =
    let sig = z.program.signature in
    let names = names_of z.program formed p (kept_fixes (variables z.program) entry p fix k) in
    let l = phis_agree sig new once p.pairing (length p.left) names a.locals b.locals f.locals b.block x.phis a.locals b.locals f.locals in
    let l' = subst (λ (i : ℕ). LocalsUnder new p.pairing (length p.left) (phis_bound sig a.locals i (map (phi_renumbered new) x.phis) a.locals) (phis_bound sig b.locals b.block x.phis b.locals)) (sym same) l in
    answered_go z one (Holds new z entry) entry p _ b _ place choice e (holds new z entry p _ _ place k fix (record { function = f.function; block = inr refl; rest = refl; end = refl; awaits = f.awaits; locals = l'; slots = f.slots }))

at_exit : (new : ℕ → ℕ) → IsOneToOne new → (z : Setting) → 1 ≤ z.bound → IsFormed z.program → (entry p : Point) (a b : Frame) (place choice : ℕ) → Kept (variables z.program) entry p → Fixes (variables z.program) entry → FramesUnder new (variables z.program) p a b → a.block ≡ new b.block → (x y : Exit) → ExitsUnder new p x y → act z.program.signature z.input b p.right place choice ≡ exits z.program.signature b p.right place y → IsAnswered z (Holds new z entry) entry p.left (alone b p.right place) (exits z.program.signature a p.left place x)
at_exit new once z one formed entry p a b place choice k fix f same x (Stuck cause) h e = answered_fails z (Holds new z entry) entry p.left (alone b p.right place) (breaks_at_once z one b p.right place choice _ e) (exits z.program.signature a p.left place x)
at_exit new once z one formed entry p a b place choice k fix f same (Leaves v) (Leaves u) h e =
    let kill' = kill_kept (variables z.program) a.slots b.slots p k.related f.slots in
    let q : Point = record { pairing = p.pairing; left = kill a.slots p.left; right = kill b.slots p.right } in
    answered_return z one (Holds new z entry) entry p q (kept_trans entry p q k kill') b place choice v u e (answer_later p q kill' v u h)
at_exit new once z one formed entry p a b place choice k fix f same (Leads' s) (Leads' t) h e =
    let sig = z.program.signature in
    let to : find_block a.function.blocks s ≡ option_map (block_renumbered new) (find_block b.function.blocks t) =
    ap (λ (g : Function). find_block g.blocks s) f.function ∙ ap (find_block (map (block_renumbered new) b.function.blocks)) h ∙ found new once b.function.blocks t in
    subst (λ (o : Option Block). IsAnswered z (Holds new z entry) entry p.left (alone b p.right place) (enters_block sig a p.left place o)) (sym to) (jump new once z one formed entry p a b place choice k fix f same (find_block b.function.blocks t) e)
at_exit new once z one formed entry p a b place choice k fix f same (Stuck cause) (Leaves u) h e = absurd h
at_exit new once z one formed entry p a b place choice k fix f same (Stuck cause) (Leads' t) h e = absurd h
at_exit new once z one formed entry p a b place choice k fix f same (Leaves v) (Leads' t) h e = absurd h
at_exit new once z one formed entry p a b place choice k fix f same (Leads' s) (Leaves u) h e = absurd h

at_end : (new : ℕ → ℕ) → IsOneToOne new → (z : Setting) → 1 ≤ z.bound → IsFormed z.program → (entry p : Point) (a b : Frame) (place choice : ℕ) → Kept (variables z.program) entry p → Fixes (variables z.program) entry → FramesUnder new (variables z.program) p a b → b.rest ≡ [] → (b.end ≡ Unreachable) ⊎ (a.block ≡ new b.block) → IsAnswered z (Holds new z entry) entry p.left (alone b p.right place) (act z.program.signature z.input a p.left place choice)
at_end new once z one formed entry p a b place choice k fix f e (inl stuck) =
    let sig = z.program.signature in
    let breaks = act_at_end sig z.input b p.right place choice e ∙ ap (λ (t : Terminator). exits sig b p.right place (exit_of (value_of sig b.locals) t)) stuck in
    answered_fails z (Holds new z entry) entry p.left (alone b p.right place) (breaks_at_once z one b p.right place choice _ breaks) (act sig z.input a p.left place choice)
at_end new once z one formed entry p a b place choice k fix f e (inr same) =
    let sig = z.program.signature in
    let names = names_of z.program formed p (kept_fixes (variables z.program) entry p fix k) in
    let x = exit_agrees sig new p names a.locals b.locals f.locals b.end in
    let x' = subst (λ (t : Terminator). ExitsUnder new p (exit_of (value_of sig a.locals) t) (exit_of (value_of sig b.locals) b.end)) (sym f.end) x in
    let r = at_exit new once z one formed entry p a b place choice k fix f same (exit_of (value_of sig a.locals) a.end) (exit_of (value_of sig b.locals) b.end) x' (act_at_end sig z.input b p.right place choice e) in
    subst (λ (y : Act). IsAnswered z (Holds new z entry) entry p.left (alone b p.right place) y) (sym (act_at_end sig z.input a p.left place choice (f.rest ∙ ap (map (line_renumbered new)) e))) r

at_rest : (new : ℕ → ℕ) → IsOneToOne new → (z : Setting) → 1 ≤ z.bound → IsFormed z.program → (entry p : Point) (a b : Frame) (place choice : ℕ) → Kept (variables z.program) entry p → Fixes (variables z.program) entry → FramesUnder new (variables z.program) p a b → (rest : List Line) → b.rest ≡ rest → IsAnswered z (Holds new z entry) entry p.left (alone b p.right place) (act z.program.signature z.input a p.left place choice)
at_rest new once z one formed entry p a b place choice k fix f (line ∷ rest) e = at_line new once z one formed entry p a b place choice k fix f line rest e
at_rest new once z one formed entry p a b place choice k fix f [] e = at_end new once z one formed entry p a b place choice k fix f e f.block

step_answered : (new : ℕ → ℕ) → IsOneToOne new → (z : Setting) → 1 ≤ z.bound → IsFormed z.program → (entry : Point) (a : Frame) (m : Memory) (s : State) → Holds new z entry a m s → (choice : ℕ) → IsAnswered z (Holds new z entry) entry m s (act z.program.signature z.input a m s.place choice)
step_answered new once z one formed entry a m s h choice =
    let p = h.point in
    let r = at_rest new once z one formed entry p a h.frame h.place choice h.kept h.fixes h.frames h.frame.rest refl in
    let r' = subst (λ (c : Memory). IsAnswered z (Holds new z entry) entry c (alone h.frame p.right h.place) (act z.program.signature z.input a c h.place choice)) h.left r in
    subst (λ (t : State). IsAnswered z (Holds new z entry) entry m t (act z.program.signature z.input a m t.place choice)) (sym h.is) r'

-- ---- entries

params_agree : (new : ℕ → ℕ) → IsOneToOne new → (w : Pairing) (n : ℕ) (ps : List Param) (vs us : List Value) → AllAgree w n vs us → LocalsUnder new w n (params_bound (map (param_renumbered new) ps) vs) (params_bound ps us)
params_agree new once w n [] vs us h = λ y. tt
params_agree new once w n (x ∷ ps) [] [] h = λ y. tt
params_agree new once w n (x ∷ ps) (v ∷ vs) (u ∷ us) h = one_more new once w n x.local v u _ _ h.0 (params_agree new once w n ps vs us h.1)
params_agree new once w n (x ∷ ps) [] (u ∷ us) h = absurd h
params_agree new once w n (x ∷ ps) (v ∷ vs) [] h = absurd h

enter_at_alike : (new : ℕ → ℕ) (g : ℕ) (p : Point) (f : Function) (bs : List Block) (ls rs : Locals) → LocalsUnder new p.pairing (length p.left) ls rs → FramesUnder new g p (enter_at (renumbered new f) (map (block_renumbered new) bs) ls) (enter_at f bs rs)
enter_at_alike new g p f [] ls rs h = record { function = refl; block = inl refl; rest = refl; end = refl; awaits = refl; locals = h; slots = tt }
enter_at_alike new g p f (b ∷ bs) ls rs h = record { function = refl; block = inr refl; rest = refl; end = refl; awaits = refl; locals = h; slots = tt }

enter_alike : (new : ℕ → ℕ) → IsOneToOne new → (g : ℕ) (p : Point) (f : Function) (vs us : List Value) → ArgumentsAgree p vs us → FramesUnder new g p (enter (renumbered new f) vs) (enter f us)
unfolding enter
enter_alike new once g p f vs us h = enter_at_alike new g p f f.blocks _ _ (params_agree new once p.pairing (length p.left) f.params vs us h)

pub renumbered_better : RenumberedBetter
renumbered_better p formed new once f input n entry vs us place rel fix agree =
    let z : Setting = record { program = p; input = input; bound = 1 } in
    near_by z (Holds new z) (step_answered new once z (omega arith) formed) n entry (enter (renumbered new f) vs) entry.left (alone (enter f us) entry.right place) (holds new z entry entry (enter (renumbered new f) vs) (enter f us) place (kept_refl entry rel) fix (enter_alike new once (variables p) entry f vs us agree))
