use Rattle.std.proofs.Common.{Vec, Global, refl}
use Rattle.snap_json.specs.Objects.{refusal_json}
use Rattle.snap_json.proofs.Values.{line_is}
use Rattle.snap_json.proofs.object.refusal_line.Goals as goal

pub returns : goal.returns
returns c =
    line_is (λ (v : Vec _ Global). v.items) c.finish.result c.end_object.new.self.writer.tokens (refusal_json c.args.name.now c.args.status c.args.place c.args.fault)
    (rw (c.in_ok-end_object.ensures, c.in_ok-put_refused.ensures, c.in_ok-line.ensures) refl)
    c.finish.ensures.text c.finish.ensures.reads_back
