-- A function is better than itself.
use Rattle.std.proofs.Common.{◌≡◌, ℕ, ◌≤◌, Bool, true, ◌==◌, List, [], ◌∷◌, length, Option, Some, None, refl, sym, ap, ◌∙◌, subst, arith}
use Rattle.ir_tree.specs.declared.block.Block.{Block}
use Rattle.ir_tree.specs.declared.block.Terminator.{Terminator}
use Rattle.ir_tree.specs.declared.block.Terminator.TheVariants.{Return, Jump, Branch, Switch, Unreachable}
use Rattle.ir_tree.specs.declared.function.Function.{Function}
use Rattle.ir_tree.specs.declared.function.Param.{Param}
use Rattle.ir_tree.specs.declared.instr.Incoming.{Incoming}
use Rattle.ir_tree.specs.declared.instr.Instr.{Instr}
use Rattle.ir_tree.specs.declared.instr.Instr.TheVariants.{Binary, Icmp, Cast, Select, Freeze, Alloca, Load, Store, Address, Call, Phi as StrayPhi}
use Rattle.ir_tree.specs.declared.instr.Line.{Line}
use Rattle.ir_tree.specs.declared.instr.Phi.{Phi}
use Rattle.ir_tree.specs.declared.operand.Argument.{Argument}
use Rattle.ir_tree.specs.declared.operand.Operand.{Operand}
use Rattle.ir_tree.specs.declared.operand.Operand.TheVariants.{Local, Number as Constant, Null, Poison as PoisonOf, Symbol as Named}
use Rattle.ir_meaning.specs.Act.{Act, with_slot, phis_bound, find_block, enters_block, Exit, Leaves, Leads', Stuck, exit_of, exits, act, params_bound, enter_at, enter, resume}
use Rattle.ir_meaning.specs.Execute.{evaluate, execute}
use Rattle.ir_meaning.specs.Frame.{Locals, Frame, look_up, bind, value_of}
use Rattle.ir_meaning.specs.Memory.{Memory, kill}
use Rattle.ir_meaning.specs.Near.{Setting, IsAnswered}
use Rattle.ir_meaning.specs.Program.{variables, State}
use Rattle.ir_meaning.specs.Relate.{Pairing, Point, Fixes, Kept, AllAgree, ValuesAgree, ArgumentsAgree}
use Rattle.ir_meaning.specs.declared.value.Value.{Value}
use Rattle.ir_meaning.specs.Formed.{IsFormed}
use Rattle.ir_meaning.specs.Laws.{Reflexivity}
use Rattle.ir_meaning.proofs.Alike.Answering.{near_by, alone, answered_effects, answered_return, answered_go, answered_fails, breaks_at_once, bind_agrees, EdgesKept, PhisKept, phis_agree, EndReads, ExitsAgree, exit_agrees, names_of, act_at_line, act_at_end}
use Rattle.ir_meaning.proofs.Alike.Effects.{answer_later, locals_later, slots_later, evaluate_agrees, UsesKept, reads_agree, SlotAgrees, execute_alike}
use Rattle.ir_meaning.proofs.Alike.Keeping.{kept_refl, kept_trans, kept_fixes, fixes_right, more, SlotsPaired, kill_kept}
use Rattle.ir_meaning.proofs.Alike.Values.{LocalsAgree, IsKept, AllKept, if_agrees}

abbrev pub every : ℕ → Bool
every x = true

kept_all : (o : Operand) → IsKept every o
kept_all (Local x) = refl
kept_all (Constant w bits) = tt
kept_all Null = tt
kept_all (PoisonOf reg) = tt
kept_all (Named s o) = tt

each_kept : (as' : List Argument) → AllKept every as'
each_kept [] = tt
each_kept (a ∷ more) = (kept_all a.operand, each_kept more)

pub reads_all : (i : Instr) → UsesKept every i
reads_all (Binary op f k l r) = (kept_all l, kept_all r)
reads_all (Icmp p reg l r) = (kept_all l, kept_all r)
reads_all (Cast op from o to) = kept_all o
reads_all (Select c t f) = (kept_all c, kept_all t.operand, kept_all f.operand)
reads_all (Freeze k o) = kept_all o
reads_all (Alloca shape align) = tt
reads_all (Load reg o align) = kept_all o
reads_all (Store reg o d align) = (kept_all o, kept_all d)
reads_all (Address inbounds shape o is) = (kept_all o, each_kept is)
reads_all (Call result c args) = (kept_all c, each_kept args)
reads_all (StrayPhi reg es) = tt

edges_all : (es : List Incoming) → EdgesKept every es
edges_all [] = tt
edges_all (e ∷ es) = (kept_all e.value, edges_all es)

pub phis_all : (ps : List Phi) → PhisKept every ps
phis_all [] = tt
phis_all (x ∷ ps) = ((λ k. edges_all x.incoming), phis_all ps)

pub end_all : (t : Terminator) → EndReads every t
end_all (Return None) = tt
end_all (Return (Some a)) = kept_all a.operand
end_all (Jump target) = tt
end_all (Branch c t f) = kept_all c
end_all (Switch w o d cs) = kept_all o
end_all Unreachable = tt

-- the same frame, but for its values and the numbers of its slots
record FramesAgree (g : ℕ) (p : Point) (a b : Frame) : Type 0 where
  function : a.function ≡ b.function
  block : a.block ≡ b.block
  rest : a.rest ≡ b.rest
  end : a.end ≡ b.end
  awaits : a.awaits ≡ b.awaits
  locals : LocalsAgree every p.pairing (length p.left) a.locals b.locals
  slots : SlotsPaired g p.pairing (length p.left) a.slots b.slots

-- both sides are in the same place
record Holds (z : Setting) (entry : Point) (a : Frame) (m : Memory) (s : State) : Type 0 where
  point : Point
  left : point.left ≡ m
  frame : Frame
  place : ℕ
  is : s ≡ alone frame point.right place
  kept : Kept (variables z.program) entry point
  fixes : Fixes (variables z.program) entry
  frames : FramesAgree (variables z.program) point a frame

frames_later : {g : ℕ} (p q : Point) → Kept g p q → (a b : Frame) → FramesAgree g p a b → FramesAgree g q a b
frames_later p q k a b f = record {
  function = f.function;
  block = f.block;
  rest = f.rest;
  end = f.end;
  awaits = f.awaits;
  locals = locals_later p q k every a.locals b.locals f.locals;
  slots = slots_later p q k a.slots b.slots f.slots;
}

pub slots_more : (g : ℕ) (p q : Point) → Fixes g p → (slot slot' : Option ℕ) (ls rs : List ℕ) → SlotAgrees p q slot slot' →
    SlotsPaired g q.pairing (length q.left) ls rs → SlotsPaired g q.pairing (length q.left) (with_slot slot ls) (with_slot slot' rs)
slots_more g p q f None None ls rs a h = h
slots_more g p q f (Some l) (Some r) ls rs a h = (a.0, a.1, omega (arith, fixes_right g p f, a.2), h)
slots_more g p q f None (Some r) ls rs a h = absurd a
slots_more g p q f (Some l) None ls rs a h = absurd a

holds : (z : Setting) (entry p : Point) (a b : Frame) (place : ℕ) → Kept (variables z.program) entry p → Fixes (variables z.program) entry →
    FramesAgree (variables z.program) p a b → Holds z entry a p.left (alone b p.right place)
holds z entry p a b place k fix f = record {
  point = p;
  left = refl;
  frame = b;
  place = place;
  is = refl;
  kept = k;
  fixes = fix;
  frames = f;
}

resume_alike : {g : ℕ} (p : Point) (a b : Frame) → FramesAgree g p a b → (v u : Option Value) → ValuesAgree p v u →
    FramesAgree g p (resume a v) (resume b u)
unfolding resume
resume_alike p a b f v u agree = record {
  function = f.function;
  block = f.block;
  rest = f.rest;
  end = f.end;
  awaits = refl;
  locals = subst (λ (o : Option ℕ). LocalsAgree every p.pairing (length p.left) (bind a.awaits v a.locals) (bind o u b.locals))
      f.awaits (bind_agrees every p a.awaits v u a.locals b.locals agree f.locals);
  slots = f.slots;
}

-- one instruction on both sides
at_line : (z : Setting) → 1 ≤ z.bound → IsFormed z.program → (entry p : Point) (a b : Frame) (place choice : ℕ) →
    Kept (variables z.program) entry p → Fixes (variables z.program) entry → FramesAgree (variables z.program) p a b → (line : Line) (rest : List Line) → a.rest ≡ line ∷ rest →
    IsAnswered z (Holds z entry) entry p.left (alone b p.right place) (act z.program.signature z.input a p.left place choice)
at_line z one formed entry p a b place choice k fix f line rest e =
    let sig = z.program.signature in
    let fix' = kept_fixes (variables z.program) entry p fix k in
    let names = names_of z.program formed p fix' in
    let tasks = evaluate_agrees p.pairing (length p.left) (value_of sig a.locals) (value_of sig b.locals) line.instr
    (reads_agree sig p.pairing (length p.left) names every a.locals b.locals f.locals line.instr (reads_all line.instr)) in
    let x = execute_alike sig p k.related z.input place choice (evaluate (value_of sig a.locals) line.instr)
    (evaluate (value_of sig b.locals) line.instr) tasks in
    let a' : Frame = record a { rest = rest } in
    let b' : Frame = record b { rest = rest } in
    let r = answered_effects z one (Holds z entry) entry p k fix' a' b b' line.local line.local place x.0
    (execute sig z.input p.left place choice (evaluate (value_of sig a.locals) line.instr))
    (execute sig z.input p.right place x.0 (evaluate (value_of sig b.locals) line.instr))
    (act_at_line sig z.input b p.right place x.0 line rest (sym f.rest ∙ e)) x.1
    (λ q v v' slot slot' place' k' agree slots. holds z entry q _ _ place' (kept_trans entry p q k k') fix
    (record {
      function = f.function;
      block = f.block;
      rest = refl;
      end = f.end;
      awaits = f.awaits;
      locals = bind_agrees every q line.local v v' a.locals b.locals agree
          (locals_later p q k' every a.locals b.locals f.locals);
      slots = slots_more (variables z.program) p q fix' slot slot' a.slots b.slots slots (slots_later p q k' a.slots b.slots f.slots);
    }))
    (λ q v v' place' k' agree. holds z entry q _ _ place' (kept_trans entry p q k k') fix
    (resume_alike q (record a' { awaits = line.local }) (record b' { awaits = line.local })
    (record {
      function = f.function;
      block = f.block;
      rest = refl;
      end = f.end;
      awaits = refl;
      locals = locals_later p q k' every a.locals b.locals f.locals;
      slots = slots_later p q k' a.slots b.slots f.slots;
    }) v
    v' agree)) in
    subst (λ (y : Act). IsAnswered z (Holds z entry) entry p.left (alone b p.right place) y)
    (sym (act_at_line sig z.input a p.left place choice line rest e)) r

-- a jump on both sides
jump : (z : Setting) → 1 ≤ z.bound → IsFormed z.program → (entry p : Point) (a b : Frame) (place choice : ℕ) →
    Kept (variables z.program) entry p → Fixes (variables z.program) entry → FramesAgree (variables z.program) p a b → (o : Option Block) →
    act z.program.signature z.input b p.right place choice ≡ enters_block z.program.signature b p.right place o →
    IsAnswered z (Holds z entry) entry p.left (alone b p.right place) (enters_block z.program.signature a p.left place o)
jump z one formed entry p a b place choice k fix f None e = breaks_at_once z one b p.right place choice _ e
jump z one formed entry p a b place choice k fix f (Some x) e =
    let sig = z.program.signature in
    let names = names_of z.program formed p (kept_fixes (variables z.program) entry p fix k) in
    let l = phis_agree sig p.pairing (length p.left) names every a.locals b.locals f.locals a.block x.phis (phis_all x.phis)
    a.locals b.locals f.locals in
    let l' = subst (λ (i : ℕ). LocalsAgree every p.pairing (length p.left) (phis_bound sig a.locals a.block x.phis a.locals)
    (phis_bound sig b.locals i x.phis b.locals)) f.block l in
    answered_go z one (Holds z entry) entry p _ b _ place choice e
    (holds z entry p _ _ place k fix (record {
      function = f.function;
      block = refl;
      rest = refl;
      end = refl;
      awaits = f.awaits;
      locals = l';
      slots = f.slots;
    }))

at_exit : (z : Setting) → 1 ≤ z.bound → IsFormed z.program → (entry p : Point) (a b : Frame) (place choice : ℕ) →
    Kept (variables z.program) entry p → Fixes (variables z.program) entry → FramesAgree (variables z.program) p a b → (x y : Exit) → ExitsAgree p x y →
    act z.program.signature z.input b p.right place choice ≡ exits z.program.signature b p.right place y →
    IsAnswered z (Holds z entry) entry p.left (alone b p.right place) (exits z.program.signature a p.left place x)
at_exit z one formed entry p a b place choice k fix f x (Stuck cause) h e =
    answered_fails z (Holds z entry) entry p.left (alone b p.right place) (breaks_at_once z one b p.right place choice _ e)
    (exits z.program.signature a p.left place x)
at_exit z one formed entry p a b place choice k fix f (Leaves v) (Leaves u) h e =
    let kill' = kill_kept (variables z.program) a.slots b.slots p k.related f.slots in
    let q : Point = record { pairing = p.pairing; left = kill a.slots p.left; right = kill b.slots p.right } in
    answered_return z one (Holds z entry) entry p q (kept_trans entry p q k kill') b place choice v u e (answer_later p q kill' v u h)
at_exit z one formed entry p a b place choice k fix f (Leads' s) (Leads' t) h e =
    let sig = z.program.signature in
    let e' : act sig z.input b p.right place choice ≡ enters_block sig b p.right place (find_block a.function.blocks s) =
    e ∙ ap (λ (i : ℕ). enters_block sig b p.right place (find_block b.function.blocks i)) (sym h)
    ∙ ap (λ (g : Function). enters_block sig b p.right place (find_block g.blocks s)) (sym f.function) in
    jump z one formed entry p a b place choice k fix f (find_block a.function.blocks s) e'
at_exit z one formed entry p a b place choice k fix f (Stuck cause) (Leaves u) h e = absurd h
at_exit z one formed entry p a b place choice k fix f (Stuck cause) (Leads' t) h e = absurd h
at_exit z one formed entry p a b place choice k fix f (Leaves v) (Leads' t) h e = absurd h
at_exit z one formed entry p a b place choice k fix f (Leads' s) (Leaves u) h e = absurd h

at_rest : (z : Setting) → 1 ≤ z.bound → IsFormed z.program → (entry p : Point) (a b : Frame) (place choice : ℕ) →
    Kept (variables z.program) entry p → Fixes (variables z.program) entry → FramesAgree (variables z.program) p a b → (rest : List Line) → a.rest ≡ rest →
    IsAnswered z (Holds z entry) entry p.left (alone b p.right place) (act z.program.signature z.input a p.left place choice)
at_rest z one formed entry p a b place choice k fix f (line ∷ rest) e = at_line z one formed entry p a b place choice k fix f line rest e
at_rest z one formed entry p a b place choice k fix f [] e =
    let sig = z.program.signature in
    let names = names_of z.program formed p (kept_fixes (variables z.program) entry p fix k) in
    let x = exit_agrees sig p names every a.locals b.locals f.locals a.end (end_all a.end) in
    let x' = subst (λ (t : Terminator). ExitsAgree p (exit_of (value_of sig a.locals) a.end) (exit_of (value_of sig b.locals) t)) f.end x in
    let r = at_exit z one formed entry p a b place choice k fix f (exit_of (value_of sig a.locals) a.end)
    (exit_of (value_of sig b.locals) b.end) x' (act_at_end sig z.input b p.right place choice (sym f.rest ∙ e)) in
    subst (λ (y : Act). IsAnswered z (Holds z entry) entry p.left (alone b p.right place) y)
    (sym (act_at_end sig z.input a p.left place choice e)) r

step_answered : (z : Setting) → 1 ≤ z.bound → IsFormed z.program → (entry : Point) (a : Frame) (m : Memory) (s : State) →
    Holds z entry a m s → (choice : ℕ) → IsAnswered z (Holds z entry) entry m s (act z.program.signature z.input a m s.place choice)
step_answered z one formed entry a m s h choice =
    let p = h.point in
    let r = at_rest z one formed entry p a h.frame h.place choice h.kept h.fixes h.frames a.rest refl in
    let r' = subst (λ (c : Memory). IsAnswered z (Holds z entry) entry c (alone h.frame p.right h.place)
    (act z.program.signature z.input a c h.place choice)) h.left r in
    subst (λ (t : State). IsAnswered z (Holds z entry) entry m t (act z.program.signature z.input a m t.place choice)) (sym h.is) r'

params_agree : (w : Pairing) (n : ℕ) (ps : List Param) (vs us : List Value) → AllAgree w n vs us →
    LocalsAgree every w n (params_bound ps vs) (params_bound ps us)
params_agree w n [] vs us h y kept = tt
params_agree w n (x ∷ ps) [] [] h y kept = tt
params_agree w n (x ∷ ps) (v ∷ vs) (u ∷ us) h y kept = if_agrees w n (x.local == y) v (look_up (params_bound ps vs) y) u
    (look_up (params_bound ps us) y) h.0 (params_agree w n ps vs us h.1 y kept)
params_agree w n (x ∷ ps) [] (u ∷ us) h y kept = absurd h
params_agree w n (x ∷ ps) (v ∷ vs) [] h y kept = absurd h

enter_at_alike : (g : ℕ) (p : Point) (f : Function) (bs : List Block) (ls rs : Locals) →
    LocalsAgree every p.pairing (length p.left) ls rs → FramesAgree g p (enter_at f bs ls) (enter_at f bs rs)
enter_at_alike g p f [] ls rs h = record { function = refl; block = refl; rest = refl; end = refl; awaits = refl; locals = h; slots = tt }
enter_at_alike g p f (b ∷ bs) ls rs h = record {
  function = refl;
  block = refl;
  rest = refl;
  end = refl;
  awaits = refl;
  locals = h;
  slots = tt;
}

enter_alike : (g : ℕ) (p : Point) (f : Function) (vs us : List Value) → ArgumentsAgree p vs us → FramesAgree g p (enter f vs) (enter f us)
unfolding enter
enter_alike g p f vs us h = enter_at_alike g p f f.blocks (params_bound f.params vs) (params_bound f.params us)
    (params_agree p.pairing (length p.left) f.params vs us h)

pub same_better : Reflexivity
same_better p formed f input n entry vs us place rel fix agree =
    let z : Setting = record { program = p; input = input; bound = 1 } in
    near_by z (Holds z) (step_answered z (omega arith) formed) n entry (enter f vs) entry.left
    (alone (enter f us) entry.right place) (holds z entry entry (enter f vs) (enter f us) place (kept_refl entry rel) fix
    (enter_alike (variables p) entry f vs us agree))
