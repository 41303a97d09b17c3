mod CallLemmas
mod HeldLemmas
