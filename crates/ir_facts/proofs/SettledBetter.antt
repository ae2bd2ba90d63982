-- A function with its free choices settled is better: where the function freezes poison or compares pointers freely, its choice is the constant.
use Rattle.std.proofs.Common.{◌≡◌, ℕ, ◌^◌, ◌<◌, ◌≤◌, Bool, true, false, if◌then◌else◌, List, [], ◌∷◌, length, map, option_map, Option, Some, None, refl, sym, ap, ◌∙◌, subst, arith}
use Rattle.std.proofs.lemmas.Bool.{lt-ltb}
use Rattle.std.specs.Prelude.{◌==◌}
use Rattle.ir_tree.specs.declared.block.Block.{Block}
use Rattle.ir_tree.specs.declared.block.Terminator.{Terminator}
use Rattle.ir_tree.specs.declared.function.Function.{Function}
use Rattle.ir_tree.specs.declared.function.Param.{Param}
use Rattle.ir_tree.specs.declared.instr.Instr.{Instr}
use Rattle.ir_tree.specs.declared.instr.Line.{Line}
use Rattle.ir_tree.specs.declared.operand.Operand.TheVariants.{Number as Constant}
use Rattle.ir_tree.specs.declared.operand.Reg.TheVariants.{Int}
use Rattle.ir_meaning.specs.Act.{Act, phis_bound, find_block, enters_block, Exit, Leaves, Leads', Stuck, exit_of, exits, act, params_bound, enter_at, enter, resume}
use Rattle.ir_meaning.specs.Execute.{Asked, Broke, Effect, Went, evaluate, execute}
use Rattle.ir_meaning.specs.Frame.{Locals, Frame, Signature, look_up, bind, value_of}
use Rattle.ir_meaning.specs.Memory.{Memory, kill}
use Rattle.ir_meaning.specs.Near.{BetterThan, IsAnswered, Setting}
use Rattle.ir_meaning.specs.Operate.{frozen, frozen_bits}
use Rattle.ir_meaning.specs.Program.{Program, variables, State}
use Rattle.ir_meaning.specs.Relate.{Pairing, Point, Fixes, Kept, Related, AllAgree, ArgumentsAgree}
use Rattle.ir_meaning.specs.declared.value.Value.{Value}
use Rattle.ir_meaning.specs.declared.value.Value.TheVariants.{Number}
use Rattle.ir_meaning.specs.Facts.{GivesFor, VariablesLive}
use Rattle.ir_meaning.specs.Formed.{IsFormed}
use Rattle.ir_meaning.proofs.Alike.Answering.{near_by, alone, answered_effects, answered_return, answered_go, answered_fails, breaks_at_once, bind_agrees, phis_agree, ExitsAgree, exit_agrees, names_of, act_at_line, act_at_end}
use Rattle.ir_meaning.proofs.Alike.Effects.{EffectsAlike, answer_later, locals_later, slots_later, evaluate_agrees, reads_agree, execute_alike}
use Rattle.ir_meaning.proofs.Alike.Itself.{every, reads_all, phis_all, end_all, slots_more}
use Rattle.ir_meaning.proofs.Alike.Keeping.{kept_refl, kept_trans, kept_fixes, SlotsPaired, kill_kept}
use Rattle.ir_meaning.proofs.Alike.Values.{LocalsAgree, Names, if_agrees}
use Rattle.ir_meaning.proofs.Facts.Standing.{stands_agree}
use Rattle.ir_meaning.proofs.Facts.Known.{resume_is, variables_live}
use Rattle.ir_meaning.proofs.Rules.Tabled.{table_right}
use Rattle.ir_facts.specs.Settled.{settled, settled_block, settled_instr, settled_line}
use Rattle.ir_facts.proofs.Chosen.{settled_by}

-- ---- one instruction

-- the constant agrees with what it may stand for
constant_alike : (p : Point) → Related p → (place n : ℕ) (e : Effect) → GivesFor p.right place (Number n) e → EffectsAlike p (Went (Some (Number n)) None p.left place []) e
constant_alike p rel place n (Broke why) g = tt
constant_alike p rel place n (Went (Some r) None m place' es) g = record {
  point = p;
  kept = λ k. kept_refl p rel;
  left = refl;
  right = sym g.1;
  place_is = sym g.2;
  events = sym g.3;
  value = stands_agree p.pairing (length p.left) (Number n) (Number n) r refl g.0;
  slot_is = tt;
}
constant_alike p rel place n (Went (Some r) (Some slot) m place' es) g = absurd g
constant_alike p rel place n (Went None slot m place' es) g = absurd g
constant_alike p rel place n (Asked s vs) g = absurd g

frozen_is : (w n choice : ℕ) → n < 2 ^ w → frozen (Int w) choice (Number n) ≡ Number n
frozen_is w n choice small = ap (λ (b : Bool). frozen_bits w choice (if b then Some n else None)) (lt-ltb n (2 ^ w) small)

-- each settled instruction does what the instruction does for some choice
instr_alike : (sig : Signature) (input : List ℕ) (p : Point) → Related p → VariablesLive sig p.right → Names sig p.pairing (length p.left) → (ls rs : Locals) → LocalsAgree every p.pairing (length p.left) ls rs → (place choice : ℕ) (i : Instr)
    → (c : ℕ) × EffectsAlike p (execute sig input p.left place choice (evaluate (value_of sig ls) (settled_instr i))) (execute sig input p.right place c (evaluate (value_of sig rs) i))
instr_alike sig input p rel live names ls rs agree place choice i =
    settled_by (λ (j : Instr). (c : ℕ) × EffectsAlike p (execute sig input p.left place choice (evaluate (value_of sig ls) j)) (execute sig input p.right place c (evaluate (value_of sig rs) i))) i
    (execute_alike sig p rel input place choice (evaluate (value_of sig ls) i) (evaluate (value_of sig rs) i)
    (evaluate_agrees p.pairing (length p.left) (value_of sig ls) (value_of sig rs) i (reads_agree sig p.pairing (length p.left) names every ls rs agree i (reads_all i))))
    (λ w n c. let given = (table_right i (Constant w n) c.row).0 sig input p.right place rs live in (
      given.0,
      subst (λ (v : Value). EffectsAlike p (Went (Some v) None p.left place []) (execute sig input p.right place given.0 (evaluate (value_of sig rs) i)))
          (sym (frozen_is w n choice c.small)) (constant_alike p rel place n (execute sig input p.right place given.0 (evaluate (value_of sig rs) i)) given.1),
    ))

found_settled : (bs : List Block) (n : ℕ) → find_block (map settled_block bs) n ≡ option_map settled_block (find_block bs n)
found_settled [] n = refl
found_settled (b ∷ bs) n = by (b.number == n) (found_settled bs n)
  where
    by : (t : Bool) → find_block (map settled_block bs) n ≡ option_map settled_block (find_block bs n)
        → (if t then Some (settled_block b) else find_block (map settled_block bs) n) ≡ option_map settled_block (if t then Some b else find_block bs n)
    by true rest = refl
    by false rest = rest

params_agree : (w : Pairing) (n : ℕ) (ps : List Param) (vs us : List Value) → AllAgree w n vs us → LocalsAgree every w n (params_bound ps vs) (params_bound ps us)
params_agree w n [] vs us h y kept = tt
params_agree w n (x ∷ ps) [] [] h y kept = tt
params_agree w n (x ∷ ps) (v ∷ vs) (u ∷ us) h y kept =
    if_agrees w n (x.local == y) v (look_up (params_bound ps vs) y) u (look_up (params_bound ps us) y) h.0 (params_agree w n ps vs us h.1 y kept)
params_agree w n (x ∷ ps) [] (u ∷ us) h y kept = absurd h
params_agree w n (x ∷ ps) (v ∷ vs) [] h y kept = absurd h

-- ---- runs of both functions

module _ (z : Setting) (one : 1 ≤ z.bound) (formed : IsFormed z.program) (f : Function) where
  -- both are in the same place
  record Both (entry p : Point) (a b : Frame) : Type 0 where
    kept : Kept (variables z.program) entry p
    fixes : Fixes (variables z.program) entry
    function : a.function ≡ settled f
    function' : b.function ≡ f
    block : a.block ≡ b.block
    rest : a.rest ≡ map settled_line b.rest
    end : a.end ≡ b.end
    locals : LocalsAgree every p.pairing (length p.left) a.locals b.locals
    slots : SlotsPaired (variables z.program) p.pairing (length p.left) a.slots b.slots

  record Holds (entry : Point) (a : Frame) (m : Memory) (s : State) : Type 0 where
    point : Point
    left : point.left ≡ m
    frame : Frame
    place : ℕ
    is : s ≡ alone frame point.right place
    both : Both entry point a frame

  holds : (entry p : Point) (a b : Frame) (place : ℕ) → Both entry p a b → Holds entry a p.left (alone b p.right place)
  holds entry p a b place h = record { point = p; left = refl; frame = b; place = place; is = refl; both = h }

  -- behind a line
  behind : (entry p q : Point) (a b : Frame) (rest : List Line) → Both entry p a b → Kept (variables z.program) p q → (la lb : Locals) → LocalsAgree every q.pairing (length q.left) la lb → (ls rs : List ℕ)
      → SlotsPaired (variables z.program) q.pairing (length q.left) ls rs → (i j : Option ℕ)
      → Both entry q (record a { rest = map settled_line rest; locals = la; slots = ls; awaits = i }) (record b { rest = rest; locals = lb; slots = rs; awaits = j })
  behind entry p q a b rest h k la lb l ls rs s i j = record {
    kept = kept_trans entry p q h.kept k;
    fixes = h.fixes;
    function = h.function;
    function' = h.function';
    block = h.block;
    rest = refl;
    end = h.end;
    locals = l;
    slots = s;
  }

  at_line : (entry p : Point) (a b : Frame) (place choice : ℕ) → Both entry p a b → (line : Line) (rest : List Line) → b.rest ≡ line ∷ rest
      → IsAnswered z (Holds entry) entry p.left (alone b p.right place) (act z.program.signature z.input a p.left place choice)
  at_line entry p a b place choice h line rest e =
      let sig = z.program.signature in
      let fix' = kept_fixes (variables z.program) entry p h.fixes h.kept in
      let names = names_of z.program formed p fix' in
      let x = instr_alike sig z.input p h.kept.related (variables_live z.program formed p fix') names a.locals b.locals h.locals place choice line.instr in
      let ea : a.rest ≡ settled_line line ∷ map settled_line rest = h.rest ∙ ap (map settled_line) e in
      let a' : Frame = record a { rest = map settled_line rest } in
      let b' : Frame = record b { rest = rest } in
      let r = answered_effects z one (Holds entry) entry p h.kept fix' a' b b' line.local line.local place x.0
      (execute sig z.input p.left place choice (evaluate (value_of sig a.locals) (settled_instr line.instr)))
      (execute sig z.input p.right place x.0 (evaluate (value_of sig b.locals) line.instr))
      (act_at_line sig z.input b p.right place x.0 line rest e) x.1
      (λ q v v' slot slot' place' k' agree slots.
      holds entry q _ _ place'
      (behind entry p q a b rest h k' _ _ (bind_agrees every q line.local v v' a.locals b.locals agree (locals_later p q k' every a.locals b.locals h.locals)) _ _
      (slots_more (variables z.program) p q fix' slot slot' a.slots b.slots slots (slots_later p q k' a.slots b.slots h.slots)) a.awaits b.awaits))
      (λ q v v' place' k' agree.
      let c1 = holds entry q _ _ place'
      (behind entry p q a b rest h k' (bind line.local v a.locals) (bind line.local v' b.locals)
      (bind_agrees every q line.local v v' a.locals b.locals agree (locals_later p q k' every a.locals b.locals h.locals)) a.slots b.slots (slots_later p q k' a.slots b.slots h.slots) None None) in
      let c2 = subst (λ (w : Frame). Holds entry w q.left (alone (record b' { locals = bind line.local v' b.locals; awaits = None }) q.right place'))
      (sym (resume_is (record a' { awaits = line.local }) v)) c1 in
      subst (λ (w : Frame). Holds entry (resume (record a' { awaits = line.local }) v) q.left (alone w q.right place')) (sym (resume_is (record b' { awaits = line.local }) v')) c2) in
      subst (λ (y : Act). IsAnswered z (Holds entry) entry p.left (alone b p.right place) y)
      (sym (act_at_line sig z.input a p.left place choice (settled_line line) (map settled_line rest) ea)) r

  jump : (entry p : Point) (a b : Frame) (place choice : ℕ) → Both entry p a b → (o : Option Block) → act z.program.signature z.input b p.right place choice ≡ enters_block z.program.signature b p.right place o
      → IsAnswered z (Holds entry) entry p.left (alone b p.right place) (enters_block z.program.signature a p.left place (option_map settled_block o))
  jump entry p a b place choice h None e = breaks_at_once z one b p.right place choice _ e
  jump entry p a b place choice h (Some x) e =
      let sig = z.program.signature in
      let names = names_of z.program formed p (kept_fixes (variables z.program) entry p h.fixes h.kept) in
      let l = phis_agree sig p.pairing (length p.left) names every a.locals b.locals h.locals a.block x.phis (phis_all x.phis) a.locals b.locals h.locals in
      let l' = subst (λ (i : ℕ). LocalsAgree every p.pairing (length p.left) (phis_bound sig a.locals a.block x.phis a.locals) (phis_bound sig b.locals i x.phis b.locals)) h.block l in
      answered_go z one (Holds entry) entry p _ b _ place choice e
      (holds entry p _ _ place (record {
        kept = h.kept;
        fixes = h.fixes;
        function = h.function;
        function' = h.function';
        block = refl;
        rest = refl;
        end = refl;
        locals = l';
        slots = h.slots;
      }))

  at_exit : (entry p : Point) (a b : Frame) (place choice : ℕ) → Both entry p a b → (x y : Exit) → ExitsAgree p x y
      → act z.program.signature z.input b p.right place choice ≡ exits z.program.signature b p.right place y
      → IsAnswered z (Holds entry) entry p.left (alone b p.right place) (exits z.program.signature a p.left place x)
  at_exit entry p a b place choice h x (Stuck cause) agree e =
      answered_fails z (Holds entry) entry p.left (alone b p.right place) (breaks_at_once z one b p.right place choice _ e) (exits z.program.signature a p.left place x)
  at_exit entry p a b place choice h (Leaves v) (Leaves u) agree e =
      let kill' = kill_kept (variables z.program) a.slots b.slots p h.kept.related h.slots in
      let q : Point = record { pairing = p.pairing; left = kill a.slots p.left; right = kill b.slots p.right } in
      answered_return z one (Holds entry) entry p q (kept_trans entry p q h.kept kill') b place choice v u e (answer_later p q kill' v u agree)
  at_exit entry p a b place choice h (Leads' s) (Leads' t) agree e =
      let sig = z.program.signature in
      let e' : act sig z.input b p.right place choice ≡ enters_block sig b p.right place (find_block f.blocks s) =
      e ∙ ap (λ (i : ℕ). enters_block sig b p.right place (find_block b.function.blocks i)) (sym agree)
      ∙ ap (λ (g : Function). enters_block sig b p.right place (find_block g.blocks s)) h.function' in
      let left : exits sig a p.left place (Leads' s) ≡ enters_block sig a p.left place (option_map settled_block (find_block f.blocks s)) =
      ap (λ (g : Function). enters_block sig a p.left place (find_block g.blocks s)) h.function
      ∙ ap (λ (o : Option Block). enters_block sig a p.left place o) (found_settled f.blocks s) in
      subst (λ (y : Act). IsAnswered z (Holds entry) entry p.left (alone b p.right place) y) (sym left) (jump entry p a b place choice h (find_block f.blocks s) e')
  at_exit entry p a b place choice h (Stuck cause) (Leaves u) agree e = absurd agree
  at_exit entry p a b place choice h (Stuck cause) (Leads' t) agree e = absurd agree
  at_exit entry p a b place choice h (Leaves v) (Leads' t) agree e = absurd agree
  at_exit entry p a b place choice h (Leads' s) (Leaves u) agree e = absurd agree

  at_rest : (entry p : Point) (a b : Frame) (place choice : ℕ) → Both entry p a b → (rest : List Line) → b.rest ≡ rest
      → IsAnswered z (Holds entry) entry p.left (alone b p.right place) (act z.program.signature z.input a p.left place choice)
  at_rest entry p a b place choice h (line ∷ rest) e = at_line entry p a b place choice h line rest e
  at_rest entry p a b place choice h [] e =
      let sig = z.program.signature in
      let names = names_of z.program formed p (kept_fixes (variables z.program) entry p h.fixes h.kept) in
      let x = exit_agrees sig p names every a.locals b.locals h.locals a.end (end_all a.end) in
      let x' = subst (λ (t : Terminator). ExitsAgree p (exit_of (value_of sig a.locals) a.end) (exit_of (value_of sig b.locals) t)) h.end x in
      let r = at_exit entry p a b place choice h (exit_of (value_of sig a.locals) a.end) (exit_of (value_of sig b.locals) b.end) x' (act_at_end sig z.input b p.right place choice e) in
      subst (λ (y : Act). IsAnswered z (Holds entry) entry p.left (alone b p.right place) y) (sym (act_at_end sig z.input a p.left place choice (h.rest ∙ ap (map settled_line) e))) r

  step_answered : (entry : Point) (a : Frame) (m : Memory) (s : State) → Holds entry a m s → (choice : ℕ) → IsAnswered z (Holds entry) entry m s (act z.program.signature z.input a m s.place choice)
  step_answered entry a m s h choice =
      let p = h.point in
      let r = at_rest entry p a h.frame h.place choice h.both h.frame.rest refl in
      let r' = subst (λ (c : Memory). IsAnswered z (Holds entry) entry c (alone h.frame p.right h.place) (act z.program.signature z.input a c h.place choice)) h.left r in
      subst (λ (t : State). IsAnswered z (Holds entry) entry m t (act z.program.signature z.input a m t.place choice)) (sym h.is) r'

  enters : (entry : Point) → Related entry → Fixes (variables z.program) entry → (ls rs : Locals) → LocalsAgree every entry.pairing (length entry.left) ls rs → (bs : List Block)
      → Both entry entry (enter_at (settled f) (map settled_block bs) ls) (enter_at f bs rs)
  enters entry rel fix ls rs h [] = record {
    kept = kept_refl entry rel;
    fixes = fix;
    function = refl;
    function' = refl;
    block = refl;
    rest = refl;
    end = refl;
    locals = h;
    slots = tt;
  }
  enters entry rel fix ls rs h (b ∷ bs) = record {
    kept = kept_refl entry rel;
    fixes = fix;
    function = refl;
    function' = refl;
    block = refl;
    rest = refl;
    end = refl;
    locals = h;
    slots = tt;
  }

  entered : (entry : Point) → Related entry → Fixes (variables z.program) entry → (vs us : List Value) → ArgumentsAgree entry vs us → (place : ℕ)
      → Holds entry (enter (settled f) vs) entry.left (alone (enter f us) entry.right place)
  unfolding enter
  entered entry rel fix vs us h place =
      holds entry entry _ _ place
      (enters entry rel fix (params_bound f.params vs) (params_bound f.params us) (params_agree entry.pairing (length entry.left) f.params vs us h) f.blocks)

pub settled_better : (f : Function) (p : Program) → IsFormed p → BetterThan p 1 (settled f) f
settled_better f p formed input n entry vs us place rel fix agree =
    let z : Setting = record { program = p; input = input; bound = 1 } in
    near_by z (Holds z (omega arith) formed f) (step_answered z (omega arith) formed f) n entry (enter (settled f) vs) entry.left
    (alone (enter f us) entry.right place) (entered z (omega arith) formed f entry rel fix vs us agree place)
