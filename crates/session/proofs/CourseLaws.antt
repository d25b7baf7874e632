-- What a sequence of calls and guest stores leaves, from what its first event leaves.
-- Assumes nothing.
use mathlib.Core.Path.{◌≡◌, refl, sym, ap}
use mathlib.Core.List.{List, [], ◌∷◌, ◌++◌, append_assoc}
use Prim.Native.Nat.{ℕ}
use Rattle.guest.specs.Prog.{Mem, splice}
use Rattle.guest.specs.Trace.{Event, call, store, Left, Course, step, course, left}
use Rattle.definition.specs.declared.Table.{Table}
use Rattle.definition.specs.declared.Answer.{Answer}
use Rattle.definition.specs.declared.Outcome.{Outcome}
use Rattle.definition.specs.Calls.{Call, prog, counted}
use Rattle.commands.specs.Promises.{Answers}

abbrev pub Defined : Call → Table → Mem → Left Answer Table
Defined = left prog counted

-- answers that came before
abbrev pub after : List Answer → Course Answer Table → Course Answer Table
after xs c = record { answers = xs ++ c.answers; table = c.table; memory = c.memory }

pub after_after : (xs ys : List Answer) (c : Course Answer Table) → after xs (after ys c) ≡ after (xs ++ ys) c
after_after xs ys c = ap (λ (zs : List Answer). record { answers = zs; table = c.table; memory = c.memory }) (sym (append_assoc xs ys c.answers))

-- a call that was answered
pub course_call : (k : Call) (es : List (Event Call)) (t : Table) (m : Mem) {r : Outcome} {m' : Mem} → Answers k t m r m'
    → course Defined (call k ∷ es) t m ≡ after (r.answer ∷ []) (course Defined es r.table m')
unfolding course step left
course_call k es t m w =
    sym (λ i. let rest = course Defined es (w.table i) (w.memory i) in record { answers = w.answer i ∷ rest.answers; table = rest.table; memory = rest.memory })

pub course_store : (a v : ℕ) (es : List (Event Call)) (t : Table) (m : Mem) → course Defined (store a v ∷ es) t m ≡ course Defined es t (splice m a (v ∷ []))
unfolding course step
course_store a v es t m = refl

pub course_none : (t : Table) (m : Mem) → course Defined [] t m ≡ record { answers = []; table = t; memory = m }
unfolding course
course_none t m = refl
