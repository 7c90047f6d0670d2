-- What an event of a trace asks of the endpoint, and what its call promises.
pub mod Asks
pub mod Does
