-- A function with the same instructions in other blocks is better.
use Rattle.std.proofs.Common.{◌≡◌, ℕ, zero, suc, ◌+◌, ◌≤◌, ◌==◌, List, [], ◌∷◌, length, Option, Some, None, ◌⊎◌, inl, inr, refl, sym, ap, ◌∙◌, subst, arith}
use Rattle.ir_tree.specs.declared.block.Block.{Block}
use Rattle.ir_tree.specs.declared.block.Terminator.{Terminator}
use Rattle.ir_tree.specs.declared.function.Function.{Function}
use Rattle.ir_tree.specs.declared.function.Param.{Param}
use Rattle.ir_tree.specs.declared.instr.Line.{Line}
use Rattle.ir_tree.specs.declared.instr.Phi.{Phi}
use Rattle.ir_meaning.specs.Act.{Act, Goes, phis_bound, find_block, enters_block, Exit, Leaves, Leads', Stuck, exit_of, exits, act, params_bound, enter_at, enter, resume}
use Rattle.ir_meaning.specs.Execute.{evaluate, execute}
use Rattle.ir_meaning.specs.Frame.{Locals, Frame, Signature, look_up, bind, value_of}
use Rattle.ir_meaning.specs.Memory.{Memory, kill}
use Rattle.ir_meaning.specs.Near.{Setting, IsAnswered, BetterThan}
use Rattle.ir_meaning.specs.Program.{Program, variables, State, On, place_of, advance}
use Rattle.ir_meaning.specs.Relate.{Pairing, Point, Fixes, Related, Kept, AllAgree, ArgumentsAgree}
use Rattle.ir_meaning.specs.declared.value.Value.{Value}
use Rattle.ir_meaning.specs.Formed.{IsFormed}
use Rattle.ir_meaning.specs.Laws.{ReshapedBetter}
use Rattle.ir_meaning.specs.Reshape.{IsStuck, Spot, spot_of, Spots, LeavesAlike, GoesQuietly, IsShape, laid}
use Rattle.ir_meaning.proofs.Alike.Answering.{near_by, alone, answered_effects, answered_return, answered_go, answered_fails, breaks_at_once, bind_agrees, phis_agree, ExitsAgree, exit_agrees, names_of, act_at_line, act_at_end, bounded, answered_after}
use Rattle.ir_meaning.proofs.Alike.Effects.{answer_later, locals_later, slots_later, evaluate_agrees, reads_agree, execute_alike}
use Rattle.ir_meaning.proofs.Alike.Itself.{every, reads_all, phis_all, end_all, slots_more}
use Rattle.ir_meaning.proofs.Alike.Keeping.{kept_refl, kept_trans, kept_fixes, SlotsPaired, kill_kept}
use Rattle.ir_meaning.proofs.Alike.Values.{LocalsAgree, if_agrees}
use Rattle.ir_meaning.proofs.Facts.Known.{resume_is}
use Rattle.ir_meaning.proofs.Runs.Steps.{one_step}

params_agree : (w : Pairing) (n : ℕ) (ps : List Param) (vs us : List Value) → AllAgree w n vs us →
    LocalsAgree every w n (params_bound ps vs) (params_bound ps us)
params_agree w n [] vs us h y kept = tt
params_agree w n (x ∷ ps) [] [] h y kept = tt
params_agree w n (x ∷ ps) (v ∷ vs) (u ∷ us) h y kept = if_agrees w n (x.local == y) v (look_up (params_bound ps vs) y) u
    (look_up (params_bound ps us) y) h.0 (params_agree w n ps vs us h.1 y kept)
params_agree w n (x ∷ ps) [] (u ∷ us) h y kept = absurd h
params_agree w n (x ∷ ps) (v ∷ vs) [] h y kept = absurd h

abbrev here : Frame → Spot
here a = record { block = a.block; rest = a.rest; end = a.end }

module _ (z : Setting) (formed : IsFormed z.program) (at : Spots) (most : ℕ) (first second : Function)
    (shape : IsShape at most first second) (bound : most + 1 ≤ z.bound) where
  record Shaped (entry p : Point) (a b : Frame) (k : ℕ) : Type 0 where
    kept : Kept (variables z.program) entry p
    fixes : Fixes (variables z.program) entry
    function : a.function ≡ first
    function' : b.function ≡ second
    places : at k (here a) (here b)
    few : k ≤ most
    locals : LocalsAgree every p.pairing (length p.left) a.locals b.locals
    slots : SlotsPaired (variables z.program) p.pairing (length p.left) a.slots b.slots

  record Holds (entry : Point) (a : Frame) (m : Memory) (s : State) : Type 0 where
    point : Point
    left : point.left ≡ m
    frame : Frame
    place : ℕ
    is : s ≡ alone frame point.right place
    fuel : ℕ
    shaped : Shaped entry point a frame fuel

  holds : (entry p : Point) (a b : Frame) (place k : ℕ) → Shaped entry p a b k → Holds entry a p.left (alone b p.right place)
  holds entry p a b place k s = record { point = p; left = refl; frame = b; place = place; is = refl; fuel = k; shaped = s }

  -- one instruction on both sides
  at_line : (z' : Setting) → z' ≡ bounded z z'.bound → 1 ≤ z'.bound → (entry p : Point) (a b : Frame) (place choice k : ℕ) →
      Shaped entry p a b k → (line : Line) (rest : List Line) → b.rest ≡ line ∷ rest →
      IsAnswered (bounded z z'.bound) (Holds entry) entry p.left (alone b p.right place)
      (act z.program.signature z.input a p.left place choice)
  at_line z' same one entry p a b place choice k s line rest e =
      let sig = z.program.signature in
      let l = shape.line k (here a) (here b) line rest s.places e in
      let fix' = kept_fixes (variables z.program) entry p s.fixes s.kept in
      let names = names_of z.program formed p fix' in
      let tasks = evaluate_agrees p.pairing (length p.left) (value_of sig a.locals) (value_of sig b.locals) line.instr
      (reads_agree sig p.pairing (length p.left) names every a.locals b.locals s.locals line.instr (reads_all line.instr)) in
      let x = execute_alike sig p s.kept.related z.input place choice (evaluate (value_of sig a.locals) line.instr)
      (evaluate (value_of sig b.locals) line.instr) tasks in
      let a' : Frame = record a { rest = l.0 } in
      let b' : Frame = record b { rest = rest } in
      let r = answered_effects (bounded z z'.bound) one (Holds entry) entry p s.kept fix' a' b b' line.local line.local place
      x.0 (execute sig z.input p.left place choice (evaluate (value_of sig a.locals) line.instr))
      (execute sig z.input p.right place x.0 (evaluate (value_of sig b.locals) line.instr))
      (act_at_line sig z.input b p.right place x.0 line rest e) x.1
      (λ q v v' slot slot' place' k' agree slots. holds entry q _ _ place' k
      (record {
        kept = kept_trans entry p q s.kept k';
        fixes = s.fixes;
        function = s.function;
        function' = s.function';
        places = l.2;
        few = s.few;
        locals = bind_agrees every q line.local v v' a.locals b.locals agree
            (locals_later p q k' every a.locals b.locals s.locals);
        slots = slots_more (variables z.program) p q fix' slot slot' a.slots b.slots slots (slots_later p q k' a.slots b.slots s.slots);
      }))
      (λ q v v' place' k' agree.
      let h : Shaped entry q (record a { rest = l.0; locals = bind line.local v a.locals; awaits = None })
      (record b { rest = rest; locals = bind line.local v' b.locals; awaits = None }) k =
      record {
        kept = kept_trans entry p q s.kept k';
        fixes = s.fixes;
        function = s.function;
        function' = s.function';
        places = l.2;
        few = s.few;
        locals = bind_agrees every q line.local v v' a.locals b.locals agree
            (locals_later p q k' every a.locals b.locals s.locals);
        slots = slots_later p q k' a.slots b.slots s.slots;
      } in
      let c1 = holds entry q _ _ place' k h in
      let c2 = subst (λ (w : Frame). Holds entry w q.left
      (alone (record b' { locals = bind line.local v' b.locals; awaits = None }) q.right place'))
      (sym (resume_is (record a' { awaits = line.local }) v)) c1 in
      subst (λ (w : Frame). Holds entry (resume (record a' { awaits = line.local }) v) q.left (alone w q.right place'))
      (sym (resume_is (record b' { awaits = line.local }) v')) c2) in
      subst (λ (y : Act). IsAnswered (bounded z z'.bound) (Holds entry) entry p.left (alone b p.right place) y)
      (sym (act_at_line sig z.input a p.left place choice line l.0 l.1)) r

  -- both leave their blocks
  at_exit : (j : ℕ) → 1 ≤ j → (entry p : Point) (a b : Frame) (place choice k : ℕ) → Shaped entry p a b k → b.rest ≡ [] →
      (x y : Exit) → exit_of (value_of z.program.signature a.locals) b.end ≡ x → ExitsAgree p x y →
      act z.program.signature z.input b p.right place choice ≡ exits z.program.signature b p.right place y →
      IsStuck x ⊎ LeavesAlike at most first second (here a) (here b) z.program.signature a.locals →
      IsAnswered (bounded z j) (Holds entry) entry p.left (alone b p.right place)
      (exits z.program.signature a p.left place (exit_of (value_of z.program.signature a.locals) a.end))
  at_exit j one entry p a b place choice k s e x (Stuck cause) q h is l =
      answered_fails (bounded z j) (Holds entry) entry p.left (alone b p.right place)
      (breaks_at_once (bounded z j) one b p.right place choice _ is)
      (exits z.program.signature a p.left place (exit_of (value_of z.program.signature a.locals) a.end))
  at_exit j one entry p a b place choice k s e (Leaves v) (Leaves u) q h is (inl st) = absurd st
  at_exit j one entry p a b place choice k s e (Leaves v) (Leaves u) q h is (inr l) =
      let kill' = kill_kept (variables z.program) a.slots b.slots p s.kept.related s.slots in
      let pt : Point = record { pairing = p.pairing; left = kill a.slots p.left; right = kill b.slots p.right } in
      let r = answered_return (bounded z j) one (Holds entry) entry p pt (kept_trans entry p pt s.kept kill') b place choice v u
      is (answer_later p pt kill' v u h) in
      subst (λ (w : Exit). IsAnswered (bounded z j) (Holds entry) entry p.left (alone b p.right place)
      (exits z.program.signature a p.left place w)) (sym (l.exit ∙ q)) r
  at_exit j one entry p a b place choice k s e (Leads' m) (Leads' n) q h is (inl st) = absurd st
  at_exit j one entry p a b place choice k s e (Leads' m) (Leads' n) q h is (inr l) =
      subst (λ (w : Exit). IsAnswered (bounded z j) (Holds entry) entry p.left (alone b p.right place)
      (exits z.program.signature a p.left place w)) (sym (l.exit ∙ q)) (by (find_block second.blocks m) refl)
    where
      sig : Signature
      sig = z.program.signature

      is' : act sig z.input b p.right place choice ≡ enters_block sig b p.right place (find_block second.blocks m)
      is' = is ∙ ap (λ (i : ℕ). enters_block sig b p.right place (find_block b.function.blocks i)) (sym h)
          ∙ ap (λ (g : Function). enters_block sig b p.right place (find_block g.blocks m)) s.function'

      by : (o : Option Block) → find_block second.blocks m ≡ o →
          IsAnswered (bounded z j) (Holds entry) entry p.left (alone b p.right place) (exits sig a p.left place (Leads' m))
      by None found =
          answered_fails (bounded z j) (Holds entry) entry p.left (alone b p.right place)
          (breaks_at_once (bounded z j) one b p.right place choice _
          (is' ∙ ap (λ (o : Option Block). enters_block sig b p.right place o) found)) (exits sig a p.left place (Leads' m))
      by (Some y) found =
          let t = l.next m y q found in
          let x = t.0 in
          let names = names_of z.program formed p (kept_fixes (variables z.program) entry p s.fixes s.kept) in
          let l0 = phis_agree sig p.pairing (length p.left) names every a.locals b.locals s.locals b.block y.phis
          (phis_all y.phis) a.locals b.locals s.locals in
          let l1 = subst (λ (w : Locals). LocalsAgree every p.pairing (length p.left) w
          (phis_bound sig b.locals b.block y.phis b.locals)) (sym t.2) l0 in
          let a1 : Frame = record a {
            block = x.number;
            rest = x.lines;
            end = x.end;
            locals = phis_bound sig a.locals a.block x.phis a.locals;
          } in
          let b1 : Frame = record b {
            block = y.number;
            rest = y.lines;
            end = y.end;
            locals = phis_bound sig b.locals b.block y.phis b.locals;
          } in
          let next : Shaped entry p a1 b1 most = record {
            kept = s.kept;
            fixes = s.fixes;
            function = s.function;
            function' = s.function';
            places = t.3;
            few = omega arith;
            locals = l1;
            slots = s.slots;
          } in
          let r = answered_go (bounded z j) one (Holds entry) entry p a1 b b1 place choice
          (is' ∙ ap (λ (o : Option Block). enters_block sig b p.right place o) found) (holds entry p a1 b1 place most next) in
          let left : exits sig a p.left place (Leads' m) ≡ Goes a1 p.left place [] =
          ap (λ (g : Function). enters_block sig a p.left place (find_block g.blocks m)) s.function
          ∙ ap (λ (o : Option Block). enters_block sig a p.left place o) t.1 in
          subst (λ (w : Act). IsAnswered (bounded z j) (Holds entry) entry p.left (alone b p.right place) w) (sym left) r
  at_exit j one entry p a b place choice k s e (Stuck cause) (Leaves u) q h is l = absurd h
  at_exit j one entry p a b place choice k s e (Stuck cause) (Leads' n) q h is l = absurd h
  at_exit j one entry p a b place choice k s e (Leaves v) (Leads' n) q h is l = absurd h
  at_exit j one entry p a b place choice k s e (Leads' m) (Leaves u) q h is l = absurd h

  at_end : (j : ℕ) → 1 ≤ j → (entry p : Point) (a b : Frame) (place choice k : ℕ) → Shaped entry p a b k → b.rest ≡ [] →
      a.rest ≡ [] → ((sig : Signature) (locals : Locals) → IsStuck (exit_of (value_of sig locals) b.end) ⊎
      LeavesAlike at most first second (here a) (here b) sig locals) →
      IsAnswered (bounded z j) (Holds entry) entry p.left (alone b p.right place)
      (act z.program.signature z.input a p.left place choice)
  at_end j one entry p a b place choice k s e e' l =
      let sig = z.program.signature in
      let names = names_of z.program formed p (kept_fixes (variables z.program) entry p s.fixes s.kept) in
      let x = exit_agrees sig p names every a.locals b.locals s.locals b.end (end_all b.end) in
      let r = at_exit j one entry p a b place choice k s e (exit_of (value_of sig a.locals) b.end)
      (exit_of (value_of sig b.locals) b.end) refl x (act_at_end sig z.input b p.right place choice e) (l sig a.locals) in
      subst (λ (y : Act). IsAnswered (bounded z j) (Holds entry) entry p.left (alone b p.right place) y)
      (sym (act_at_end sig z.input a p.left place choice e')) r

  -- a place is answered after its quiet jumps
  at_place : (k : ℕ) (entry p : Point) (a b : Frame) (place choice : ℕ) → Shaped entry p a b k → (rest : List Line) →
      b.rest ≡ rest → IsAnswered (bounded z (k + 1)) (Holds entry) entry p.left (alone b p.right place)
      (act z.program.signature z.input a p.left place choice)
  at_place k entry p a b place choice s (line ∷ rest) e = at_line (bounded z (k + 1)) refl (omega arith) entry p a b place
      choice k s line rest e
  at_place zero entry p a b place choice s [] e = by (shape.last zero (here a) (here b) s.places e)
    where
      by : GoesQuietly at zero second (here a) (here b) ⊎
          ((a.rest ≡ []) × ((sig : Signature) (locals : Locals) → IsStuck (exit_of (value_of sig locals) b.end) ⊎
          LeavesAlike at most first second (here a) (here b) sig locals)) →
          IsAnswered (bounded z 1) (Holds entry) entry p.left (alone b p.right place)
          (act z.program.signature z.input a p.left place choice)
      by (inl g) = absurd g
      by (inr l) = at_end 1 (omega arith) entry p a b place choice zero s e l.0 l.1
  at_place (suc k) entry p a b place choice s [] e =
      by (shape.last (suc k) (here a) (here b) s.places e) (λ b1 s1. at_place k entry p a b1 place choice s1 b1.rest refl)
    where
      sig : Signature
      sig = z.program.signature

      by : GoesQuietly at (suc k) second (here a) (here b) ⊎
          ((a.rest ≡ []) × ((sg : Signature) (locals : Locals) → IsStuck (exit_of (value_of sg locals) b.end) ⊎
          LeavesAlike at most first second (here a) (here b) sg locals)) →
          ((b1 : Frame) → Shaped entry p a b1 k → IsAnswered (bounded z (k + 1)) (Holds entry) entry p.left
          (alone b1 p.right place) (act sig z.input a p.left place choice)) →
          IsAnswered (bounded z (suc k + 1)) (Holds entry) entry p.left (alone b p.right place)
          (act sig z.input a p.left place choice)
      by (inr l) go = at_end (suc k + 1) (omega arith) entry p a b place choice (suc k) s e l.0 l.1
      by (inl g) go =
          let y = g.1 in
          let b1 : Frame = record b { block = y.number; rest = y.lines; end = y.end; locals = b.locals } in
          let is : act sig z.input b p.right place 0 ≡ Goes b1 p.right place [] =
          act_at_end sig z.input b p.right place 0 e ∙ ap (λ (w : Terminator).
          exits sig b p.right place (exit_of (value_of sig b.locals) w)) g.2
          ∙ ap (λ (w : Function). enters_block sig b p.right place (find_block w.blocks g.0)) s.function'
          ∙ ap (λ (o : Option Block). enters_block sig b p.right place o) g.3
          ∙ ap (λ (ps : List Phi). let w : Act = Goes (record b {
            block = y.number;
            rest = y.lines;
            end = y.end;
            locals = phis_bound sig b.locals b.block ps b.locals;
          }) p.right place [] in w) g.4 in
          let one = one_step z.program z.input (alone b p.right place) 0
          (record { events = []; next = On (alone b1 p.right place) })
          (ap (advance z.program (place_of b) [] p.right place) is) in
          let s1 : Shaped entry p a b1 k = record {
            kept = s.kept;
            fixes = s.fixes;
            function = s.function;
            function' = s.function';
            places = g.5;
            few = omega (arith, s.few);
            locals = s.locals;
            slots = s.slots;
          } in
          answered_after (bounded z (suc k + 1)) 1 (k + 1) (omega arith) (Holds entry) entry p.left (alone b p.right place)
          (alone b1 p.right place) one refl (act sig z.input a p.left place choice) (go b1 s1)

  step_answered : (entry : Point) (a : Frame) (m : Memory) (s : State) → Holds entry a m s → (choice : ℕ) →
      IsAnswered z (Holds entry) entry m s (act z.program.signature z.input a m s.place choice)
  step_answered entry a m s h choice =
      let p = h.point in
      let r0 = at_place h.fuel entry p a h.frame h.place choice h.shaped h.frame.rest refl in
      let r = answered_after z 0 (h.fuel + 1) (omega (arith, h.shaped.few, bound)) (Holds entry) entry p.left
      (alone h.frame p.right h.place) (alone h.frame p.right h.place) (refl, refl) refl
      (act z.program.signature z.input a p.left h.place choice) r0 in
      let r' = subst (λ (w : Memory). IsAnswered z (Holds entry) entry w (alone h.frame p.right h.place)
      (act z.program.signature z.input a w h.place choice)) h.left r in
      subst (λ (w : State). IsAnswered z (Holds entry) entry m w (act z.program.signature z.input a m w.place choice)) (sym h.is) r'

  enters_shaped : (entry : Point) → Related entry → Fixes (variables z.program) entry → (ls rs : Locals) →
      LocalsAgree every entry.pairing (length entry.left) ls rs → (x y : Block) (xs ys : List Block) →
      at most (spot_of x) (spot_of y) → (place : ℕ) →
      Holds entry (enter_at first (x ∷ xs) ls) entry.left (alone (enter_at second (y ∷ ys) rs) entry.right place)
  enters_shaped entry rel fix ls rs h x y xs ys w place =
      holds entry entry _ _ place most (record {
        kept = kept_refl entry rel;
        fixes = fix;
        function = refl;
        function' = refl;
        places = w;
        few = omega arith;
        locals = h;
        slots = tt;
      })

  enter_shaped : (entry : Point) → Related entry → Fixes (variables z.program) entry → (vs us : List Value) →
      ArgumentsAgree entry vs us → (place : ℕ) → Holds entry (enter first vs) entry.left (alone (enter second us) entry.right place)
  unfolding enter
  enter_shaped entry rel fix vs us h place =
      let e = shape.entry in
      let l0 = params_agree entry.pairing (length entry.left) second.params vs us h in
      let l = subst (λ (ps : List Param). LocalsAgree every entry.pairing (length entry.left) (params_bound ps vs)
      (params_bound second.params us)) (sym shape.params) l0 in
      let r = enters_shaped entry rel fix (params_bound first.params vs) (params_bound second.params us) l e.0 e.1 e.2 e.3 e.6 place in
      let r1 = subst (λ (bs : List Block). Holds entry (enter_at first bs (params_bound first.params vs)) entry.left
      (alone (enter_at second (e.1 ∷ e.3) (params_bound second.params us)) entry.right place)) (sym e.4) r in
      subst (λ (bs : List Block). Holds entry (enter_at first first.blocks (params_bound first.params vs)) entry.left
      (alone (enter_at second bs (params_bound second.params us)) entry.right place)) (sym e.5) r1

-- for any relation of places
pub shape_better : (p : Program) → IsFormed p → (at : Spots) (most : ℕ) (first second : Function) →
    IsShape at most first second → BetterThan p (most + 1) first second
shape_better p formed at most first second shape input n entry vs us place rel fix agree =
    let z : Setting = record { program = p; input = input; bound = most + 1 } in
    near_by z (Holds z formed at most first second shape (omega arith))
    (step_answered z formed at most first second shape (omega arith)) n entry (enter first vs) entry.left
    (alone (enter second us) entry.right place) (enter_shaped z formed at most first second shape (omega arith) entry rel
    fix vs us agree place)

pub reshaped_is_better : ReshapedBetter
reshaped_is_better p formed t most first second shape = shape_better p formed (laid t) most first second shape
