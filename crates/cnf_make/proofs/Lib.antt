mod Clauses
mod OnVariables
