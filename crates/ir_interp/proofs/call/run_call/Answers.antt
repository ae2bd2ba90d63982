use Rattle.std.proofs.Common.{◌<◌, List, length, refl, sym, ap, subst, arith}
use Rattle.ir_meaning.specs.Execute as execute
use Rattle.ir_meaning.specs.Fault as fault
use Rattle.ir_machine.specs.Meant.{symbol_at}
use Rattle.ir_interp.specs.Locals.{AreKnown}
use Rattle.ir_interp.specs.Tasks.{values_meant}
use Rattle.ir_interp.specs.declared.source.Typed.{Typed}
use Rattle.ir_interp.specs.Calls.{IsAmong}
use Rattle.ir_interp.specs.declared.callee.Entity.{Entity}
use Rattle.ir_interp.specs.declared.callee.Resolved.{Resolved}
use Rattle.ir_interp.specs.declared.callee.Resolved.TheVariants as resolved
use Rattle.ir_interp.specs.declared.host.Host.{Host}
use Rattle.ir_interp.specs.declared.host.Host.TheVariants as host
use Rattle.ir_interp.specs.Scenes.{TakesSo, Works}
use Rattle.ir_interp.proofs.Acting.{work_fails}
use Rattle.ir_interp.proofs.Resolving.{IsAnswer, call_known, call_works, hears_so, takes_so, works_so, no_call}
use Rattle.ir_interp.proofs.Telling.{then_ok, then_err}
use Rattle.ir_interp.proofs.call.run_call.Goals as goal

pub returns-in-Function-clause-ok : goal.returns-in-Function-clause-ok
returns-in-Function-clause-ok c = then_ok c.call_function.result c.call_function.ensures.ok (λ did done z choice l rest s next call.
    let code = c.args.code.now in
    let m = c.args.memory.now in
    let f = c.args.frame.now in
    let line = c.args.line.now in
    let asked = subst (λ (es : List Entity). IsAnswer es f.registers c.in-Call.result c.in-Call.callee c.deref-2.result.now c.resolve.result) c.deref.ensures.value c.resolve.ensures.effect in
    let passed = subst (λ (ts : List Typed). IsAnswer code.entities.items f.registers c.in-Call.result c.in-Call.callee ts c.resolve.result) c.deref-2.ensures.value asked in
    let answer = subst (λ (r : Resolved). IsAnswer code.entities.items f.registers c.in-Call.result c.in-Call.callee c.in-Call.arguments.items r) c.in-Function.is passed in
    let known = call_known z m line l rest _ c.in-Call.is next in
    let i = c.in-Function.index in
    let values = values_meant z.names z.frame.locals c.in-Call.arguments.items in
    let works = works_so z m choice c.args.given line l rest values (resolved.Function i) (λ place. execute.Asked (symbol_at z.names i) values) next
    (λ input place. call_works z code m f line l rest _ (resolved.Function i) c.in-Call.result c.in-Call.callee c.in-Call.arguments.items c.in-Call.is (λ locals. refl) s next known.0 answer input place choice) (λ input place. refl) in
    let same = sym c.deref-in-Function.ensures.value in
    let among : i < length c.deref.result.now = subst (λ (r : Resolved). IsAmong (length c.deref.result.now) r) c.in-Function.is c.resolve.ensures.among in
    let inside : i < length z.names = omega (arith, among, ap length c.deref.ensures.value, s.code.kinds.long) in
    done z choice c.args.given l rest s inside next.next (subst (λ (ts : List Typed). AreKnown z.names m z.memory ts) same known.1)
    (subst (λ (ts : List Typed). TakesSo z.program (symbol_at z.names i) (length ts)) same (takes_so z code m f c.in-Call.result c.in-Call.callee c.in-Call.arguments.items i s known.0 answer))
    (subst (λ (ts : List Typed). Works z choice c.args.given line.local rest (λ place. execute.Asked (symbol_at z.names i) (values_meant z.names z.frame.locals ts))) same works))

pub returns-in-Host-PutChar-clause-ok : goal.returns-in-Host-PutChar-clause-ok
returns-in-Host-PutChar-clause-ok c = then_ok c.call_putchar.result c.call_putchar.ensures.ok (λ did done z choice l rest s next call.
    let code = c.args.code.now in
    let m = c.args.memory.now in
    let f = c.args.frame.now in
    let line = c.args.line.now in
    let asked = subst (λ (es : List Entity). IsAnswer es f.registers c.in-Call.result c.in-Call.callee c.deref-2.result.now c.resolve.result) c.deref.ensures.value c.resolve.ensures.effect in
    let passed = subst (λ (ts : List Typed). IsAnswer code.entities.items f.registers c.in-Call.result c.in-Call.callee ts c.resolve.result) c.deref-2.ensures.value asked in
    let told = subst (λ (r : Resolved). IsAnswer code.entities.items f.registers c.in-Call.result c.in-Call.callee c.in-Call.arguments.items r) c.in-Host-PutChar.is passed in
    let answer = subst (λ (h : Host). IsAnswer code.entities.items f.registers c.in-Call.result c.in-Call.callee c.in-Call.arguments.items (resolved.Host h)) c.in-Host-PutChar.field-0-is told in
    let known = call_known z m line l rest _ c.in-Call.is next in
    let values = values_meant z.names z.frame.locals c.in-Call.arguments.items in
    let works = works_so z m choice c.args.given line l rest values (resolved.Host host.PutChar) (λ place. execute.puts_char z.memory place values) next
    (λ input place. call_works z code m f line l rest _ (resolved.Host host.PutChar) c.in-Call.result c.in-Call.callee c.in-Call.arguments.items c.in-Call.is (λ locals. refl) s next known.0 answer input place choice) (λ input place. refl) in
    let same = sym c.deref-in-Host-PutChar.ensures.value in
    done z code m choice c.args.given l rest s next.next (subst (λ (ts : List Typed). AreKnown z.names m z.memory ts) same known.1)
    (subst (λ (ts : List Typed). Works z choice c.args.given line.local rest (λ place. execute.puts_char z.memory place (values_meant z.names z.frame.locals ts))) same works))

pub returns-in-Host-GetChar-clause-ok : goal.returns-in-Host-GetChar-clause-ok
returns-in-Host-GetChar-clause-ok c = then_ok c.call_getchar.result c.call_getchar.ensures.ok (λ did done z choice l rest s next call.
    let code = c.args.code.now in
    let m = c.args.memory.now in
    let f = c.args.frame.now in
    let line = c.args.line.now in
    let asked = subst (λ (es : List Entity). IsAnswer es f.registers c.in-Call.result c.in-Call.callee c.deref-2.result.now c.resolve.result) c.deref.ensures.value c.resolve.ensures.effect in
    let passed = subst (λ (ts : List Typed). IsAnswer code.entities.items f.registers c.in-Call.result c.in-Call.callee ts c.resolve.result) c.deref-2.ensures.value asked in
    let told = subst (λ (r : Resolved). IsAnswer code.entities.items f.registers c.in-Call.result c.in-Call.callee c.in-Call.arguments.items r) c.in-Host-GetChar.is passed in
    let answer = subst (λ (h : Host). IsAnswer code.entities.items f.registers c.in-Call.result c.in-Call.callee c.in-Call.arguments.items (resolved.Host h)) c.in-Host-GetChar.field-0-is told in
    let known = call_known z m line l rest _ c.in-Call.is next in
    let values = values_meant z.names z.frame.locals c.in-Call.arguments.items in
    let hears = hears_so z m line l rest values next
    (λ input place choice'. call_works z code m f line l rest _ (resolved.Host host.GetChar) c.in-Call.result c.in-Call.callee c.in-Call.arguments.items c.in-Call.is (λ locals. refl) s next known.0 answer input place choice') in
    done z code m choice l rest s next.next hears)

pub returns-in-Undefined-clause-ok : goal.returns-in-Undefined-clause-ok
returns-in-Undefined-clause-ok c = λ z choice l rest s next call.
    let code = c.args.code.now in
    let m = c.args.memory.now in
    let f = c.args.frame.now in
    let line = c.args.line.now in
    let cause = c.in-Undefined.cause in
    let asked = subst (λ (es : List Entity). IsAnswer es f.registers c.in-Call.result c.in-Call.callee c.deref-2.result.now c.resolve.result) c.deref.ensures.value c.resolve.ensures.effect in
    let passed = subst (λ (ts : List Typed). IsAnswer code.entities.items f.registers c.in-Call.result c.in-Call.callee ts c.resolve.result) c.deref-2.ensures.value asked in
    let answer = subst (λ (r : Resolved). IsAnswer code.entities.items f.registers c.in-Call.result c.in-Call.callee c.in-Call.arguments.items r) c.in-Undefined.is passed in
    let known = call_known z m line l rest _ c.in-Call.is next in
    let values = values_meant z.names z.frame.locals c.in-Call.arguments.items in
    let works = works_so z m choice c.args.given line l rest values (resolved.Undefined cause) (λ place. execute.Broke (fault.Undefined cause)) next
    (λ input place. call_works z code m f line l rest _ (resolved.Undefined cause) c.in-Call.result c.in-Call.callee c.in-Call.arguments.items c.in-Call.is (λ locals. refl) s next known.0 answer input place choice) (λ input place. refl) in
    (work_fails z choice c.args.given line.local rest (fault.Undefined cause) works, record { function = refl; block = refl; line = refl; base = refl })

pub returns-in-Host-PutChar-clause-err : goal.returns-in-Host-PutChar-clause-err
returns-in-Host-PutChar-clause-err c = then_err c.call_putchar.result c.call_putchar.ensures.err (λ done z s. done z c.args.code.now c.args.memory.now s)

pub returns-in-Host-GetChar-clause-err : goal.returns-in-Host-GetChar-clause-err
returns-in-Host-GetChar-clause-err c = then_err c.call_getchar.result c.call_getchar.ensures.err (λ done z s. done z c.args.code.now c.args.memory.now s)

pub returns-in_default-clause-ok : goal.returns-in_default-clause-ok
returns-in_default-clause-ok c = λ z choice l rest s next call. absurd (no_call c.args.line.now.task c.in_default.not-Call call)
