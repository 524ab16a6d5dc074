-- What is proved as a pair, part by part under the names of the clauses that a contract has.

pub value-rest_after : {A B : Type 0} → A × B → record { value : A; rest_after : B }
value-rest_after p = record { value = p.0; rest_after = p.1 }
