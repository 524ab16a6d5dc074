-- What is proved as a pair, part by part under the names of the clauses that a contract has.

pub value-out_after : {A B : Type 0} → A × B → record { value : A; out_after : B }
value-out_after p = record { value = p.0; out_after = p.1 }

pub value-scratch_after : {A B : Type 0} → A × B → record { value : A; scratch_after : B }
value-scratch_after p = record { value = p.0; scratch_after = p.1 }
