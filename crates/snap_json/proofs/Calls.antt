-- What a call writes or shows, by what the index says of it.
use Rattle.std.proofs.Common.{◌≡◌, [], Some, None, refl, sym}
use Rattle.std.specs.List.{flat_map}
use Rattle.std.proofs.lemmas.List.{append-nil}
use Rattle.json.specs.Tree.{json_tokens}
use Rattle.snap_core.specs.declared.entry.Entry.{Entry}
use Rattle.snap_core.specs.Calls.{Operation, Updates, Views, entries_of}
use Rattle.snap_index.specs.declared.call.CallOp.TheVariants.{Update, View}
use Rattle.snap_index.specs.IndexedCalls.{answered_by, indexed_op}
use Rattle.snap_json.specs.Calls.{entries_in, entry_json}

pub none_shown : (o : Operation) → None ≡ answered_by o → entries_of o ≡ []
none_shown (Updates e) h = refl
none_shown (Views None) h = refl
none_shown (Views (Some es)) h = absurd (cc)

pub update_entries : (o : Operation) (e : Entry) → Update e ≡ indexed_op o → json_tokens (entry_json e) ≡ flat_map (λ entry. json_tokens (entry_json entry)) (entries_in o)
update_entries (Updates d) e h = let same : e ≡ d = cc in rw same (sym (append-nil (json_tokens (entry_json d))))
update_entries (Views answer) e h = absurd (cc)

pub view_entries : (o : Operation) → View ≡ indexed_op o → entries_of o ≡ entries_in o
view_entries (Updates e) h = absurd (cc)
view_entries (Views answer) h = refl
