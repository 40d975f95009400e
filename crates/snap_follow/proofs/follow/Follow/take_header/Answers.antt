use Rattle.std.proofs.Common.{refl}
use Rattle.snap_follow.proofs.Steps.{header_read, nothing_more}
use Rattle.snap_follow.proofs.follow.Follow.take_header.Goals as goal

pub returns-in_default-clause-read : goal.returns-in_default-clause-read
returns-in_default-clause-read c = nothing_more c.args.self.now c.args.self.now c.args.line.now (refl, refl, refl, refl) (refl, refl, refl, refl, refl) (rw c.in_default.is at c.in_ok-header.ensures)

pub returns-clause-read : goal.returns-clause-read
returns-clause-read c =
    let found = rw (c.in-Some.is, c.in-Some-header.is) at c.in_ok-header.ensures in
    header_read c.args.self.now _ c.args.line.now found.0 c.in-Some-header.form c.requires refl refl (c.agrees.ensures.0 c.if-not-agrees.false) refl refl (refl, refl, refl, refl) c.next_place-self.ensures found.1 found.2
