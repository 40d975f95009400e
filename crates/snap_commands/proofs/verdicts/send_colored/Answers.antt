use Rattle.std.proofs.Common.{◌≡◌, ◌-◌, ◌++◌, List, arith, drop, length, length-drop, subst, take, ℕ}
use Rattle.std.proofs.KnownBytes.{Appends-trans}
use Rattle.std.proofs.lemmas.List.{take-append-drop, take_all}
use Rattle.snap_commands.specs.Painting.{IsColor, IsPainted, plain}
use Rattle.snap_commands.proofs.Pieces.{colored, front_longer, front_more, front_sent, sends_more, whatever_error, whole_sent}
use Rattle.snap_commands.proofs.verdicts.send_colored.Goals as goal

-- a line in a colour up to an end, as it is sent
abbrev in_color : List ℕ → List ℕ → ℕ → List ℕ
in_color color line end = (color ++ take end line) ++ plain

painted : (color line : List ℕ) (end : ℕ) → IsColor color → IsPainted line (in_color color line end ++ drop end line)
painted color line end is =
    subst (λ (l : List ℕ). IsPainted l (in_color color line end ++ drop end line)) (take-append-drop end line) (colored color (take end line) (drop end line) is)

-- the rest of a line as the code cuts it off
rest_is : (line : List ℕ) (end : ℕ) → take (length line - end) (drop end line) ≡ drop end line
rest_is line end = take_all (length line - end) (drop end line) (omega (arith, length-drop end line))

pub returns-in_err-send-clause-cut : goal.returns-in_err-send-clause-cut
returns-in_err-send-clause-cut g c =
    let color = c.args.color.now in
    let line = c.args.line.now in
    let end = c.end_of-end.result in
    whatever_error _ c.from_residual.result
    (record {
      out = in_color color line end ++ drop end line;
      painted = painted color line end c.requires;
      sent = front_longer _ _ (in_color color line end) (drop end line)
          (front_longer _ _ (color ++ take end line) plain (front_longer _ _ color (take end line) c.in_err-send.ensures.bytes));
    })

pub returns-in_err-send-2-clause-cut : goal.returns-in_err-send-2-clause-cut
returns-in_err-send-2-clause-cut g c =
    let color = c.args.color.now in
    let line = c.args.line.now in
    let end = c.end_of-end.result in
    whatever_error _ c.from_residual-in_err-send-2.result
    (record {
      out = in_color color line end ++ drop end line;
      painted = painted color line end c.requires;
      sent = front_longer _ _ (in_color color line end) (drop end line)
          (front_longer _ _ (color ++ take end line) plain (front_more _ _ _ color (take end line) c.in_ok-send.ensures.bytes c.in_err-send-2.ensures.bytes));
    })

pub returns-in_err-send-3-clause-cut : goal.returns-in_err-send-3-clause-cut
returns-in_err-send-3-clause-cut g c =
    let color = c.args.color.now in
    let line = c.args.line.now in
    let end = c.end_of-end.result in
    let both = Appends-trans _ _ _ color (take end line) c.in_ok-send.ensures.bytes c.in_ok-send-2.ensures.bytes in
    whatever_error _ c.from_residual-in_err-send-3.result
    (record {
      out = in_color color line end ++ drop end line;
      painted = painted color line end c.requires;
      sent = front_longer _ _ (in_color color line end) (drop end line) (front_more _ _ _ (color ++ take end line) plain both c.in_err-send-3.ensures.bytes);
    })

pub returns-clause-sent : goal.returns-clause-sent
returns-clause-sent g c =
    let color = c.args.color.now in
    let line = c.args.line.now in
    let end = c.end_of-end.result in
    let both = Appends-trans _ _ _ color (take end line) c.in_ok-send.ensures.bytes c.in_ok-send-2.ensures.bytes in
    let colors = Appends-trans _ _ _ (color ++ take end line) plain both c.in_ok-send-3.ensures.bytes in
    let rest = rw (rest_is line end) at c.send-4.ensures.bytes in
    whole_sent _ _ line (in_color color line end ++ drop end line) c.send-4.result (painted color line end c.requires)
    (sends_more _ _ _ (in_color color line end) (drop end line) c.send-4.result colors rest)

pub returns-clause-cut : goal.returns-clause-cut
returns-clause-cut g c =
    let color = c.args.color.now in
    let line = c.args.line.now in
    let end = c.end_of-end.result in
    let both = Appends-trans _ _ _ color (take end line) c.in_ok-send.ensures.bytes c.in_ok-send-2.ensures.bytes in
    let colors = Appends-trans _ _ _ (color ++ take end line) plain both c.in_ok-send-3.ensures.bytes in
    let rest = rw (rest_is line end) at c.send-4.ensures.bytes in
    front_sent _ _ line (in_color color line end ++ drop end line) c.send-4.result (painted color line end c.requires)
    (sends_more _ _ _ (in_color color line end) (drop end line) c.send-4.result colors rest)
