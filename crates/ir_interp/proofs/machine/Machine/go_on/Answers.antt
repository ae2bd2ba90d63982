use Rattle.std.proofs.Common.{ℕ, ◌<◌, List, [], ◌∷◌, ◌++◌, length, refl, sym, ap, subst, ◌∙◌}
use Rattle.ir_machine.specs.Meant.{symbol_at}
use Rattle.ir_machine.specs.declared.memory.Memory.{Memory}
use Rattle.ir_machine.proofs.Holding.{on_err}
use Rattle.ir_interp.specs.Scenes.{Enters, HasDone}
use Rattle.ir_interp.specs.Steps.{IsStep}
use Rattle.ir_interp.specs.declared.step_end.StepEnd.{StepEnd}
use Rattle.ir_interp.specs.declared.frame.Did.{Did}
use Rattle.ir_interp.specs.declared.frame.Frame.{Frame}
use Rattle.ir_interp.proofs.Advancing.{goes_running, plays, scene_of, step_enters, step_goes, step_returns, step_undefined, step_uninit, step_wants, step_writes, stays_standing}
use Rattle.ir_interp.proofs.machine.Machine.go_on.Goals as goal

pub returns-in_err-reserve-clause-err : goal.returns-in_err-reserve-clause-err
returns-in_err-reserve-clause-err c =
    on_err c.from_residual.result
    (λ names p s r.
    let z = plays names p c.args.self.now s r in
    goes_running names p c.args.self.now (record c.args.self.now { below = c.reserve.new.self }) s r s.memory s.top s.place refl c.reserve.ensures.items refl
    (record { holds = z.holds; keeps = λ h x. x; frame = z.frame; stacks = z.stacks }))

pub returns-in_err-did-clause-err : goal.returns-in_err-did-clause-err
returns-in_err-did-clause-err c =
    on_err c.from_residual-in_err-did.result
    (λ names p s r.
    goes_running names p c.args.self.now (record c.args.self.now { top = c.act.new.frame; below = c.reserve.new.self; memory = c.act.new.memory; values = c.act.new.values }) s r s.memory s.top s.place refl c.reserve.ensures.items refl
    (c.in_err-did.ensures.err (scene_of names p s r.front) (plays names p c.args.self.now s r)))

pub returns-in-Went-clause-ok : goal.returns-in-Went-clause-ok
returns-in-Went-clause-ok c = λ names p s r.
    let z = scene_of names p s r.front in
    let done = subst (λ (d : Did). HasDone z c.args.choice c.args.given c.args.self.now.memory c.act.new.memory c.args.self.now.top c.act.new.frame d) c.in-Went.is (c.in_ok-did.ensures.ok z (plays names p c.args.self.now s r)) in
    step_goes names p c.args.self.now (record c.args.self.now { top = c.act.new.frame; below = c.reserve.new.self; memory = c.act.new.memory; values = c.act.new.values }) s c.args.choice c.args.given r
    done.0 done.1.0 done.1.1.0 refl c.reserve.ensures.items refl done.1.1.1.0 done.1.1.1.1 done.1.1.1.2

pub returns-in-Wrote-clause-ok : goal.returns-in-Wrote-clause-ok
returns-in-Wrote-clause-ok c = λ names p s r.
    let z = scene_of names p s r.front in
    let done = subst (λ (d : Did). HasDone z c.args.choice c.args.given c.args.self.now.memory c.act.new.memory c.args.self.now.top c.act.new.frame d) c.in-Wrote.is (c.in_ok-did.ensures.ok z (plays names p c.args.self.now s r)) in
    step_writes names p c.args.self.now (record c.args.self.now { top = c.act.new.frame; below = c.reserve.new.self; memory = c.act.new.memory; values = c.act.new.values }) s c.args.choice c.args.given r c.in-Wrote.byte
    done.0 done.1.0 refl c.reserve.ensures.items refl done.1.1.0 done.1.1.1

pub returns-in-Wants-clause-ok : goal.returns-in-Wants-clause-ok
returns-in-Wants-clause-ok c = λ names p s r.
    let z = scene_of names p s r.front in
    let done = subst (λ (d : Did). HasDone z c.args.choice c.args.given c.args.self.now.memory c.act.new.memory c.args.self.now.top c.act.new.frame d) c.in-Wants.is (c.in_ok-did.ensures.ok z (plays names p c.args.self.now s r)) in
    step_wants names p c.args.self.now (record c.args.self.now { top = c.act.new.frame; below = c.reserve.new.self; memory = c.act.new.memory; values = c.act.new.values }) s c.args.choice c.args.given r
    refl c.reserve.ensures.items refl done.0 done.1 done.2

pub returns-in-Enters-clause-ok : goal.returns-in-Enters-clause-ok
returns-in-Enters-clause-ok c = λ names p s r.
    let z = scene_of names p s r.front in
    let f' = c.act.new.frame in
    let m' = c.act.new.memory in
    let done = subst (λ (d : Did). HasDone z c.args.choice c.args.given c.args.self.now.memory m' c.args.self.now.top f' d) c.in-Enters.is (c.in_ok-did.ensures.ok z (plays names p c.args.self.now s r)) in
    let now = subst (λ (m : Memory). Enters z c.args.choice c.args.given c.args.self.now.memory m f' c.in-Enters.callee) (sym c.enter.ensures.memory) done in
    subst (λ (e : StepEnd). IsStep names p s c.args.choice c.args.given c.enter.new.self e) (sym c.enter.ensures.value)
    (step_enters names p c.args.self.now c.enter.new.self s c.args.choice c.args.given r f' c.enter.ensures.code (c.enter.ensures.below ∙ ap (λ (fs : List Frame). fs ++ f' ∷ []) c.reserve.ensures.items) c.enter.ensures.ended
    (subst (λ (f : Frame). Enters z c.args.choice c.args.given c.args.self.now.memory c.enter.new.self.memory f' f) (sym c.enter.ensures.top) now))

pub returns-in-Gives-clause-ok : goal.returns-in-Gives-clause-ok
returns-in-Gives-clause-ok c = λ names p s r.
    let z = scene_of names p s r.front in
    let done = subst (λ (d : Did). HasDone z c.args.choice c.args.given c.args.self.now.memory c.act.new.memory c.args.self.now.top c.act.new.frame d) c.in-Gives.is (c.in_ok-did.ensures.ok z (plays names p c.args.self.now s r)) in
    step_returns names p c.args.self.now (record c.args.self.now { top = c.act.new.frame; below = c.reserve.new.self; memory = c.act.new.memory; values = c.act.new.values }) c.go_back.new.self s c.args.choice c.args.given r c.in-Gives.answer c.go_back.result
    c.go_back.ensures.code c.reserve.ensures.items refl done (λ memory numbers d ds. c.go_back.ensures.went names p memory numbers d ds) c.go_back.ensures.over

pub returns-in-Undefined-clause-ok : goal.returns-in-Undefined-clause-ok
returns-in-Undefined-clause-ok c = λ names p s r.
    let z = scene_of names p s r.front in
    let f = c.args.self.now.top in
    let f' = c.act.new.frame in
    let done = subst (λ (d : Did). HasDone z c.args.choice c.args.given c.args.self.now.memory c.act.new.memory f f' d) c.in-Undefined.is (c.in_ok-did.ensures.ok z (plays names p c.args.self.now s r)) in
    let stays = done.1 in
    let place = c.place_in-place.ensures names p s.top r.code (subst (λ (i : ℕ). i < length names) (sym stays.function) r.top.named)
    (ap (λ (i : ℕ). p.code (symbol_at names i)) stays.function ∙ r.top.called) (stays_standing s.top.function.blocks s.top f f' stays r.top.stands) in
    subst (λ (e : StepEnd). IsStep names p s c.args.choice c.args.given c.end.new.self e) (sym c.end.ensures.value)
    (step_undefined names p s r.front c.args.choice c.args.given c.end.new.self c.in-Undefined.cause c.place_in-place.result done.0 place c.end.ensures.ended)

pub returns-in-Uninit-clause-ok : goal.returns-in-Uninit-clause-ok
returns-in-Uninit-clause-ok c = λ names p s r.
    let z = scene_of names p s r.front in
    let f = c.args.self.now.top in
    let f' = c.act.new.frame in
    let done = subst (λ (d : Did). HasDone z c.args.choice c.args.given c.args.self.now.memory c.act.new.memory f f' d) c.in-Uninit.is (c.in_ok-did.ensures.ok z (plays names p c.args.self.now s r)) in
    let stays = done.1 in
    let place = c.place_in-place-in-Uninit.ensures names p s.top r.code (subst (λ (i : ℕ). i < length names) (sym stays.function) r.top.named)
    (ap (λ (i : ℕ). p.code (symbol_at names i)) stays.function ∙ r.top.called) (stays_standing s.top.function.blocks s.top f f' stays r.top.stands) in
    subst (λ (e : StepEnd). IsStep names p s c.args.choice c.args.given c.end-in-Uninit.new.self e) (sym c.end-in-Uninit.ensures.value)
    (step_uninit names p s r.front c.args.choice c.args.given c.end-in-Uninit.new.self c.place_in-place-in-Uninit.result done.0 place c.end-in-Uninit.ensures.ended)
