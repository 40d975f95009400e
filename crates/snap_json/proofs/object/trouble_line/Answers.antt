use Rattle.std.proofs.Common.{Vec, Global, refl}
use Rattle.snap_json.specs.Objects.{trouble_json}
use Rattle.snap_json.proofs.Values.{line_is}
use Rattle.snap_json.proofs.object.trouble_line.Goals as goal

pub returns : goal.returns
returns c =
    line_is (λ (v : Vec _ Global). v.items) c.finish.result c.end_object.new.self.writer.tokens (trouble_json c.args.name.now c.args.status c.args.reason.now)
    (rw (c.in_ok-end_object.ensures, c.in_ok-text.ensures, c.in_ok-line.ensures) refl)
    c.finish.ensures.text c.finish.ensures.reads_back
