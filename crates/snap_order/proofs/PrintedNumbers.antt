-- The printed order, by the numbers of its calls.
use Rattle.std.proofs.Common.{◌≡◌, ◌⊎◌, ◌∙◌, ◌<◌, ℕ, true, List, Option, length, map, refl, sym, ap, inl, inr}
use Rattle.std.specs.List.{All}
use Rattle.std.proofs.lemmas.List.Elements.{All-map}
use Rattle.snap_core.specs.declared.event.Event.{Event}
use Rattle.snap_core.specs.Calls.{Call, Operation, Updates, Views, call_numbered, calls_of, is_view}
use Rattle.snap_core.specs.Orders.{is_update}
use Rattle.snap_core.proofs.Histories.{numbered_calls}
use Rattle.snap_core.proofs.Lists.{Contains-from_In, In, In-get_or}
use Rattle.snap_index.proofs.Known.{number_within, own_number}
use Rattle.snap_theory.specs.Levels.{is_printed, printed_order, stands_by}
use Rattle.snap_order.specs.Numbers.{picked}
use Rattle.snap_order.proofs.Numbers.{order_picked}
use Rattle.snap_theory.proofs.Printed.{in_printed}

-- the number of an update or a completed view has the property
abbrev pub HoldsOfLines : List Call → (ℕ → Type 0) → Type 0
HoldsOfLines calls Holds = (n : ℕ) → n < length calls → (is_update (call_numbered calls n) ≡ true) ⊎ (is_view (call_numbered calls n) ≡ true) → Holds n

printed_kind : (calls : List Call) (o : Operation) (ended : Option ℕ) (c : Call) → c.operation ≡ o → stands_by calls ended o ≡ true → (is_update c ≡ true) ⊎ (is_view c ≡ true)
unfolding is_update is_view
printed_kind calls (Updates e) ended c h s = inl (rw h refl)
printed_kind calls (Views answer) ended c h s = inr (rw h s)

printed_holds : (Holds : ℕ → Type 0) (es : List Event) → HoldsOfLines (calls_of es) Holds → (c : Call) → In c (printed_order (calls_of es)) → Holds c.number
unfolding is_printed
printed_holds Holds es lines c i =
    let p = in_printed (calls_of es) c i in
    let own = own_number es c p.0 in
    lines c.number (number_within es c p.0) (rw own (printed_kind (calls_of es) c.operation c.ended c refl p.1))

-- what holds of the number of each update and completed view holds of those of the printed order
pub all_of_order : (Holds : ℕ → Type 0) (es : List Event) → HoldsOfLines (calls_of es) Holds → (numbers : List ℕ) → numbers ≡ map (λ c. c.number) (printed_order (calls_of es)) → All Holds numbers
all_of_order Holds es lines numbers e =
    rw e (All-map Holds (λ c. c.number) (printed_order (calls_of es)) (λ k d l. printed_holds Holds es lines _ (In-get_or (printed_order (calls_of es)) k d l)))

pub calls_of_order : (es : List Event) (numbers : List ℕ) → numbers ≡ map (λ c. c.number) (printed_order (calls_of es)) → map (call_numbered (calls_of es)) numbers ≡ printed_order (calls_of es)
unfolding picked
calls_of_order es numbers e =
    ap (map (call_numbered (calls_of es))) e
    ∙ sym (order_picked (calls_of es) (printed_order (calls_of es)) (numbered_calls es) (λ c i. Contains-from_In (calls_of es) c (in_printed (calls_of es) c i).0))
